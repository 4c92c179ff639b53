use Rattle.std.proofs.Common.{ℕ, ◌%◌, ap, ◌∙◌, w64, of_z}
use mir.ValLaws.{to_z-of_z}
use Rattle.timestamps.specs.Conversion.{era}
use Rattle.timestamps.proofs.low_bits.Goals as goal

pub returns : goal.returns
returns c = ap (λ (n : ℕ). n % era) (c.cast_unsigned.ensures ∙ ap (of_z w64) (to_z-of_z w64 c.args.z c.ranges.z))
