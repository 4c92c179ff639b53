use Rattle.chains.proofs.Ends.{end_stored}
use Rattle.chains.proofs.end_at.Goals as goal

pub returns : goal.returns
returns c = rw c.link_after.ensures (end_stored 4096 _ _ _ _)
