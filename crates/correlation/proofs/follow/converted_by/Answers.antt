use mathlib.Core.Path.{◌∙◌}
use lib.IntN.{ℤ, ◌+ℤ◌}
use mir.Syntax.{w32, w64}
use mir.ValLaws.{to_z-of_z}
use Rattle.timestamps.specs.Converted.{converted}
use Rattle.timestamps.proofs.Outcome.{converts_converted}
use Rattle.correlation.proofs.follow.converted_by.Goals as goal

pub returns : goal.returns
returns c =
    let r = c.args.reply in
    converts_converted r.format c.args.timestamp _ c.convert.result c.convert.ensures
    ∙ (λ i. converted r.format c.args.timestamp (to_z-of_z w64 r.reference (record { sfits = c.struct_told-1.given.1.1.1.0.1 }) i +ℤ to_z-of_z w32 c.args.offset c.ranges.offset i))
