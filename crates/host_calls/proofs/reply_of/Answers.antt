use borrow.Author.Tests.{eq-eqb, ne_eqb}
use Rattle.host_calls.proofs.reply_of.Goals as goal

-- Assumes nothing.
pub returns-then-pending-eq0 : goal.returns-then-pending-eq0
returns-then-pending-eq0 c = simp (eq-eqb _ _ c.if-pending-eq0.true)

pub returns : goal.returns
returns c = simp (ne_eqb _ _ c.if-pending-eq0.false)
