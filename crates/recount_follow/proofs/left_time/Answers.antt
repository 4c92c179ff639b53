use Rattle.recount_follow.specs.declared.Left.TheVariants.{Timed}
use mathlib.Core.Path.{ap}
use mir.Syntax.{w64}
use mir.ValLaws.{to_z-of_z}
use Rattle.recount_follow.proofs.left_time.Goals as goal

pub returns-in-Some : goal.returns-in-Some
returns-in-Some c =
    rw c.in-Some.is (ap (Timed c.args.format) (to_z-of_z w64 c.args.reference c.ranges.reference))
