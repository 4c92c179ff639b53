use mathlib.Core.Path.{ap, ◌∙◌}
use mir.Syntax.{w32}
use mir.ValLaws.{to_z-of_z}
use Rattle.correlation.specs.Words.{slot_of}
use Rattle.host_follow_class.proofs.Steps.{class_as}
use Rattle.host_follow_class.proofs.class_at.Goals as goal

pub returns : goal.returns
returns c =
    class_as _ c.args.slots.now _ c.args.at c.args.own c.args.offset _ c.args.telemetry _ _ _
    (c.of_words-slot.ensures ∙ ap slot_of c.words-held.ensures) c.look-found.ensures c.class_of-class.ensures (to_z-of_z w32 c.args.offset c.ranges.offset) c.correct_at.ensures
