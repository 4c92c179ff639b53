use mathlib.Core.Path.{sym, ◌∙◌}
use Rattle.chains.proofs.Tests.{eq_true, eq_false}
use Rattle.chains.proofs.link_after.Goals as goal

pub returns-then-wide-slot : goal.returns-then-wide-slot
returns-then-wide-slot c = rw (eq_true _ _ (sym c.wide.ensures ∙ c.if-wide-slot.true))

pub returns-else-wide-slot : goal.returns-else-wide-slot
returns-else-wide-slot c = rw (eq_false _ _ (λ e. c.if-wide-slot.false (c.wide.ensures ∙ e)))
