use mathlib.Core.Path.{sym, ◌∙◌}
use Rattle.recount_call.proofs.probe_mark.Goals as goal

pub returns-then-late : goal.returns-then-late
returns-then-late c = simp (sym c.late.ensures ∙ c.if-late.true)

pub returns : goal.returns
returns c = simp (sym c.late.ensures ∙ c.if-late.false)
