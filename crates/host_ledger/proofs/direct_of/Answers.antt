use Rattle.host_ledger.specs.Parts.{direct_at}
use Rattle.host_ledger.proofs.direct_of.Goals as goal

pub returns : goal.returns
unfolding direct_at
returns c = rw (c.window_of-window.ensures, c.is_set.ensures)
