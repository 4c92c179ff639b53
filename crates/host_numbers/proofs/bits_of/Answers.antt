use mathlib.Core.Path.{◌≡◌, refl, sym, ap, ◌∙◌, subst}
use mathlib.Core.Bool.{Bool, true, false, not}
use Prim.Native.Nat.{ℕ}
use lib.Dec.{T}
use lib.Ieee.{Float, nan, inf, fin, eq, ne, is_nan, binary64, to_bits, of_bits, of_fields}
use lib.Ieee.Bits.{of_bits-to_bits}
use lib.Ieee.Compare.{differs_from_itself}
use Rattle.host_numbers.proofs.bits_of.Goals as goal

no_nan : (x : Float) → eq x x ≡ true → T (not (is_nan x))
unfolding eq is_nan
no_nan nan same = subst (λ (b : Bool). T (not b)) same tt
no_nan (inf s) same = tt
no_nan (fin s m e) same = tt

the_nan : (x : Float) → eq x x ≡ false → x ≡ nan
unfolding ne
the_nan x other = differs_from_itself x (subst (λ (b : Bool). T (not b)) (sym other) tt)

bits_of_nan : ◌≡◌ {A = ℕ} 9221120237041090560 (to_bits binary64 nan)
unfolding to_bits
bits_of_nan = refl

nan_again : of_bits binary64 9221120237041090560 ≡ nan
unfolding of_bits of_fields
nan_again = refl

pub float_to_bits-result : goal.float_to_bits-result
float_to_bits-result c = no_nan c.args.x c.if-x.true

pub returns-then-x : goal.returns-then-x
returns-then-x c = (refl, of_bits-to_bits binary64 c.args.x (subst T (sym c.well_formed.0.1) tt))

pub returns : goal.returns
returns c =
    let x-nan = the_nan c.args.x c.if-x.false in
    (bits_of_nan ∙ ap (to_bits binary64) (sym x-nan), nan_again ∙ sym x-nan)
