use Rattle.key_ring.proofs.Steps.{newest-empty}
use borrow.Author.Rules.{rules}
use Rattle.key_ring.proofs.newest.Goals as goal

-- Assumes nothing.
pub returns-then-ring-eq0 : goal.returns-then-ring-eq0
returns-then-ring-eq0 c = (newest-empty _ (search rules) c.if-ring-eq0.true, search rules)
