use Rattle.std.proofs.Common.{rules}
use mathlib.Core.Path.{ap, ◌∙◌}
use mathlib.Core.Bool.{◌&&◌}
use mir.Syntax.{w32, w64}
use mir.ValLaws.{to_z-of_z}
use Rattle.ranges.specs.Ranges.{in_range, reference_within, offset_within}
use Rattle.recount_call.proofs.range.in_range.Goals as goal

pub returns : goal.returns
unfolding in_range
returns c = λ i.
    c.time_fits.ensures i
    && (c.reference_fits.ensures ∙ ap reference_within (to_z-of_z w64 c.args.o.reference (search rules))) i
    && (c.offset_fits.ensures ∙ ap offset_within (to_z-of_z w32 c.args.o.offset (search rules))) i
    && c.scales_fit.ensures i
