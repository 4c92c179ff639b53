use Rattle.probe_ring.proofs.Mends.{mend_higher, mend_itself, mend_lower}
use Rattle.probe_ring.proofs.mended.Goals as goal

pub returns-then-gone-at : goal.returns-then-gone-at
returns-then-gone-at c = mend_higher 4096 _ _ _ _ c.if-gone-at.true

pub returns-then-gone-at-2 : goal.returns-then-gone-at-2
returns-then-gone-at-2 c = mend_itself 4096 _ _ _ _ c.if-gone-at.false c.if-gone-at-2.true

pub returns : goal.returns
returns c = mend_lower 4096 _ _ _ _ c.if-gone-at.false c.if-gone-at-2.false
