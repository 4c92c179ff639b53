use mathlib.Core.Path.{sym, ◌∙◌}
use Rattle.recount_class.proofs.start_next.Goals as goal

pub returns-then-clears : goal.returns-then-clears
returns-then-clears c = rw (sym c.clears.ensures ∙ c.if-clears.true)

pub returns : goal.returns
returns c = rw (sym c.clears.ensures ∙ c.if-clears.false)
