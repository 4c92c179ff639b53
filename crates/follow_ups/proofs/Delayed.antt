-- The delay of two times in range, as the code reads signed values, through their bits. Assumes nothing.
use mathlib.Core.Path.{◌≡◌, ap, ◌∙◌}
use lib.IntN.{ℤ}
use mir.Syntax.{w32, w64}
use mir.Val.{SFits, of_z, to_z}
use mir.ValLaws.{to_z-of_z}
use Rattle.correlation.specs.Class.{delay_of, TimeInRange, OffsetInRange}
use Rattle.correlation.proofs.Span.{delay_in}

module _ (t4 t3 offset : ℤ) (f4 : SFits w64 t4) (f3 : SFits w64 t3) (fo : SFits w32 offset)
    (r4 : TimeInRange t4) (r3 : TimeInRange t3) (ro : OffsetInRange offset) where
  pub delay-read : (ns : ℤ) → ns ≡ delay_of (to_z w64 (of_z w64 t4)) (to_z w64 (of_z w64 t3)) (to_z w32 (of_z w32 offset)) → to_z w64 (of_z w64 ns) ≡ delay_of t4 t3 offset
  delay-read ns e =
      ap (λ (z : ℤ). to_z w64 (of_z w64 z)) (e ∙ (λ i. delay_of (to_z-of_z w64 t4 f4 i) (to_z-of_z w64 t3 f3 i) (to_z-of_z w32 offset fo i)))
      ∙ to_z-of_z w64 (delay_of t4 t3 offset) (delay_in t4 t3 offset r4 r3 ro)
