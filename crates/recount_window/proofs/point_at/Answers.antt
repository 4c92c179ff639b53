use mathlib.Core.Path.{sym, ◌∙◌}
use Rattle.recount_window.proofs.point_at.Goals as goal

pub returns-in-None : goal.returns-in-None
returns-in-None c = rw (sym c.observation_at.ensures ∙ c.in-None.is)

pub returns-in-Some : goal.returns-in-Some
returns-in-Some c = rw (sym c.observation_at.ensures ∙ c.in-Some.is) c.point_in.ensures
