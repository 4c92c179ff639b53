use native.Mathlib.Omega.{arith}
use Rattle.chains.proofs.Tests.{lt_true}
use Rattle.key_ring.proofs.is_newest.Goals as goal

-- Assumes nothing.
pub returns-then-ring-eq0 : goal.returns-then-ring-eq0
returns-then-ring-eq0 c = rw c.if-ring-eq0.true

pub returns : goal.returns
returns c = rw (lt_true 0 c.args.ring.len (omega arith), ← c.newest.ensures.0) c.key_is.ensures
