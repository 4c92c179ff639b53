-- The value of a digit, on each way through `digit_of`. Assumes nothing.
use mathlib.Core.Path.{◌≡◌, refl}
use mathlib.Core.Bool.{Bool, true, false, cond}
use Prim.Native.Nat.{ℕ, ◌-◌, ◌≤◌, ◌<◌}
use native.Mathlib.Omega.{arith}
use lib.Dec.{ltb}
use borrow.Author.Tests.{lt-ltb, le-ltb, ltb-true}
use Rattle.bit_pattern.specs.Pattern.{digit_of}

module _ (b : ℕ) where
  pub before_numerals : b < 48 → 16 ≡ digit_of b
  unfolding digit_of
  before_numerals h = rw (lt-ltb b 48 h)

  pub numeral : 48 ≤ b → b < 58 → b - 48 ≡ digit_of b
  unfolding digit_of
  numeral h k = rw (le-ltb b 48 h, lt-ltb b 58 k)

  pub before_capitals : 58 ≤ b → b < 65 → 16 ≡ digit_of b
  unfolding digit_of
  before_capitals h k = rw (le-ltb b 48 (omega arith), le-ltb b 58 h, lt-ltb b 65 k)

  pub capital : 65 ≤ b → b < 71 → b - 55 ≡ digit_of b
  unfolding digit_of
  capital h k = rw (le-ltb b 48 (omega arith), le-ltb b 58 (omega arith), le-ltb b 65 h, lt-ltb b 71 k)

  pub before_small : 71 ≤ b → b < 97 → 16 ≡ digit_of b
  unfolding digit_of
  before_small h k = rw (le-ltb b 48 (omega arith), le-ltb b 58 (omega arith), le-ltb b 65 (omega arith), le-ltb b 71 h, lt-ltb b 97 k)

  pub small : 97 ≤ b → b < 103 → b - 87 ≡ digit_of b
  unfolding digit_of
  small h k = rw (le-ltb b 48 (omega arith), le-ltb b 58 (omega arith), le-ltb b 65 (omega arith), le-ltb b 71 (omega arith), le-ltb b 97 h, lt-ltb b 103 k)

  pub behind-small : 103 ≤ b → 16 ≡ digit_of b
  unfolding digit_of
  behind-small h =
      rw (le-ltb b 48 (omega arith), le-ltb b 58 (omega arith), le-ltb b 65 (omega arith), le-ltb b 71 (omega arith), le-ltb b 97 (omega arith), le-ltb b 103 h)

  pub digit-most : digit_of b ≤ 16
  unfolding digit_of
  digit-most = by (ltb b 48) (ltb b 58) (ltb b 65) (ltb b 71) (ltb b 97) (ltb b 103) refl refl refl
    where
      by : (p q r s t u : Bool) → ltb b 58 ≡ q → ltb b 71 ≡ s → ltb b 103 ≡ u
          → cond p 16 (cond q (b - 48) (cond r 16 (cond s (b - 55) (cond t 16 (cond u (b - 87) 16))))) ≤ 16
      by true q r s t u e f g = omega arith
      by false true r s t u e f g = omega (arith, ltb-true b 58 e)
      by false false true s t u e f g = omega arith
      by false false false true t u e f g = omega (arith, ltb-true b 71 f)
      by false false false false true u e f g = omega arith
      by false false false false false true e f g = omega (arith, ltb-true b 103 g)
      by false false false false false false e f g = omega arith
