use mathlib.Core.Path.{◌≡◌, refl, sym, subst, ◌∙◌}
use mathlib.Core.Bool.{Bool, true, false, not}
use Prim.Native.Nat.{ℕ, ◌<◌, ◌%◌}
use lib.Dec.{T}
use lib.Ieee.{Float, nan, inf, fin, is_nan, binary64, div, odd, of_bits, of_fields}
use lib.Ieee.Bits.{nan_bits_above, nan_bits_is}
use borrow.Author.Tests.{le-ltb, lt-ltb}
use Rattle.host_numbers.proofs.float_of.Goals as goal

only_nan : (x : Float) → is_nan x ≡ true → x ≡ nan
unfolding is_nan
only_nan nan h = refl
only_nan (inf s) h = absurd (subst (λ (b : Bool). T (not b)) h tt)
only_nan (fin s m e) h = absurd (subst (λ (b : Bool). T (not b)) h tt)

zero_by_zero : div binary64 (of_bits binary64 0) (of_bits binary64 0) ≡ nan
unfolding div of_bits of_fields odd
zero_by_zero = refl

above_is_nan : (bits : ℕ) → 9218868437227405312 < bits % 9223372036854775808 → of_bits binary64 bits ≡ nan
above_is_nan bits h = only_nan (of_bits binary64 bits) (sym (nan_bits_is binary64 bits) ∙ nan_bits_above binary64 bits ∙ lt-ltb _ _ h)

pub returns-then-bits-gt9218868437227405312 : goal.returns-then-bits-gt9218868437227405312
returns-then-bits-gt9218868437227405312 c = zero_by_zero ∙ sym (above_is_nan c.args.bits c.if-bits-gt9218868437227405312.true)

pub float_from_bits-result : goal.float_from_bits-result
float_from_bits-result c = subst (λ (b : Bool). T (not b)) (sym (nan_bits_above binary64 _ ∙ le-ltb _ _ c.if-bits-gt9218868437227405312.false)) tt
