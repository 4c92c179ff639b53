use Rattle.host_ledger.specs.Parts.{replies_at}
use Rattle.host_ledger.proofs.replies_of.Goals as goal

pub returns : goal.returns
unfolding replies_at
returns c = rw (c.reflector_of-last.ensures, c.reflector_of-highest.ensures)
