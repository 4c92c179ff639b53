use Rattle.host_ledger.specs.Words.{tables_at}
use Rattle.host_ledger.proofs.tables_of.Goals as goal

pub returns : goal.returns
unfolding tables_at
returns c = rw c.is_set-awaits.ensures
