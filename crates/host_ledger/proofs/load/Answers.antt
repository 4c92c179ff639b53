use Rattle.host_ledger.specs.Words.{ledger_at}
use Rattle.host_ledger.proofs.load.Goals as goal

pub returns : goal.returns
unfolding ledger_at
returns c = rw (c.secret_of-secret.ensures, c.tables_of-tables.ensures, c.replies_of-replies.ensures, c.delays_of-rtt.ensures, c.direct_of-direct.ensures, c.follow_of-follow.ensures)
