use borrow.Author.Tests.{eq-eqb, ne_eqb}
use Rattle.probe_ring.specs.Row.{ordinal_of}
use Rattle.probe_ring.proofs.ordinal_of.Goals as goal

-- Assumes nothing.
pub returns-then-known-eq0 : goal.returns-then-known-eq0
unfolding ordinal_of
returns-then-known-eq0 c = rw (eq-eqb _ _ c.if-known-eq0.true)

pub returns-else-known-eq0 : goal.returns-else-known-eq0
unfolding ordinal_of
returns-else-known-eq0 c = rw (ne_eqb _ _ c.if-known-eq0.false)
