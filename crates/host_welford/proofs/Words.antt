-- What the steps leave in the words. Assumes nothing.
use mathlib.Core.Path.{◌≡◌, sym, ap, ap₂, ◌∙◌, subst}
use mathlib.Core.Bool.{Bool, true, not, ◌&&◌}
use Prim.Native.Nat.{ℕ, ◌+◌, ◌^◌, ◌<◌}
use native.Mathlib.Omega.{arith}
use lib.Dec.{T, ltb, ltb→lt}
use lib.IntN.{pos, ◌-ℤ◌}
use lib.Ieee.{Float, nan, inf, fin, binary64, of_int, of_bits, to_bits, nan_bits, is_nan, eq, add, sub, mul, div}
use Rattle.series.proofs.Kept.{left_of, right_of}
use Rattle.spread.specs.declared.Welford.{Welford}
use Rattle.spread.specs.Spread.{welford_from}
use Rattle.spread.proofs.Steps.{welford_is}
use Rattle.host_welford.specs.declared.FloatWords.{FloatWords}
use Rattle.host_welford.specs.Steps.{float_words, welford_at, step_words}

abbrev words : ℕ → ℕ → FloatWords
words x y = record { mean = x; m2 = y }

-- by any words
pub any_said : (origin mean m2 n v : ℕ) (a b : Float) (w : Welford) (x y : ℕ) → a ≡ of_bits binary64 mean → b ≡ of_bits binary64 m2
    → w ≡ welford_from origin (record { origin = origin; mean = a; m2 = b }) n v → x ≡ to_bits binary64 w.mean → y ≡ to_bits binary64 w.m2
    → words x y ≡ step_words origin mean m2 n v
any_said origin mean m2 n v a b w x y e f g h k =
    ap₂ words h k
    ∙ ap float_words (g ∙ ap₂ (λ (a b : Float). welford_from origin (record { origin = origin; mean = a; m2 = b }) n v) e f)

-- by whole numbers below 2^52
pub small-said : (origin mean m2 n v : ℕ) (x y : Float) → x ≡ of_int binary64 (pos v -ℤ pos origin) → y ≡ of_int binary64 (pos n -ℤ pos 0)
    → words (to_bits binary64 (add binary64 (of_bits binary64 mean) (div binary64 (sub binary64 x (of_bits binary64 mean)) y)))
    (to_bits binary64 (add binary64 (of_bits binary64 m2) (mul binary64 (sub binary64 x (of_bits binary64 mean)) (sub binary64 x (add binary64 (of_bits binary64 mean) (div binary64 (sub binary64 x (of_bits binary64 mean)) y))))))
    ≡ step_words origin mean m2 n v
small-said origin mean m2 n v x y e f = ap float_words (welford_is (welford_at origin mean m2) origin n v x y e (f ∙ ap (λ (m : ℕ). of_int binary64 (pos m)) (none n)))
  where
    none : (n : ℕ) → n + 0 ≡ n
    none n = omega arith

-- a float that equals itself is no NaN
pub no_nan : (x : Float) → eq x x ≡ true → T (not (is_nan x))
unfolding eq is_nan
no_nan nan same = subst (λ (b : Bool). T (not b)) same tt
no_nan (inf s) same = tt
no_nan (fin s m e) same = tt

-- the five tests of `steps`
module _ (mean m2 : ℕ) (a b : Bool) (value origin count : ℕ) (x : a ≡ not (nan_bits binary64 mean)) (y : b ≡ not (nan_bits binary64 m2))
    (all : a && b && ltb value (2 ^ 52) && ltb origin (2 ^ 52) && ltb count (2 ^ 52) ≡ true) where
  all_four : a && b && ltb value (2 ^ 52) && ltb origin (2 ^ 52) ≡ true
  all_four = left_of (a && b && ltb value (2 ^ 52) && ltb origin (2 ^ 52)) (ltb count (2 ^ 52)) all

  all_three : a && b && ltb value (2 ^ 52) ≡ true
  all_three = left_of (a && b && ltb value (2 ^ 52)) (ltb origin (2 ^ 52)) all_four

  both : a && b ≡ true
  both = left_of (a && b) (ltb value (2 ^ 52)) all_three

  below : (n : ℕ) → ltb n (2 ^ 52) ≡ true → n < 2 ^ 52
  below n e = ltb→lt n (2 ^ 52) (subst T (sym e) tt)

  pub small_enough : T (not (nan_bits binary64 mean)) × T (not (nan_bits binary64 m2)) × (origin < 2 ^ 52) × (count < 2 ^ 52) × (value < 2 ^ 52)
  small_enough = (
    subst T (sym (left_of a b both) ∙ x) tt,
    subst T (sym (right_of a b both) ∙ y) tt,
    below origin (right_of (a && b && ltb value (2 ^ 52)) (ltb origin (2 ^ 52)) all_four),
    below count (right_of (a && b && ltb value (2 ^ 52) && ltb origin (2 ^ 52)) (ltb count (2 ^ 52)) all),
    below value (right_of (a && b) (ltb value (2 ^ 52)) all_three),
  )
