use mathlib.Core.Path.{ap}
use lib.Dec.{eqb}
use Rattle.recount_window.proofs.is_seen.Goals as goal

pub returns-in-Some : goal.returns-in-Some
returns-in-Some c = rw c.in-Some.is (ap (eqb c.args.wanted) c.step.ensures)
