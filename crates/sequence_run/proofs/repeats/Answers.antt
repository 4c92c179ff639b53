use mathlib.Core.Path.{sym, ◌∙◌}
use Rattle.sequence_run.proofs.Chosen.{chosen, passed}
use Rattle.sequence_run.proofs.repeats.Goals as goal

pub returns-then-covers : goal.returns-then-covers
returns-then-covers c = chosen _ _ _ (sym c.covers.ensures ∙ c.if-covers.true)

pub returns-else-covers : goal.returns-else-covers
returns-else-covers c = passed _ _ _ (sym c.covers.ensures ∙ c.if-covers.false)
