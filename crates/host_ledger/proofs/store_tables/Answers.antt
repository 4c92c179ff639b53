use Rattle.host_ledger.proofs.store_tables.Goals as goal

pub returns : goal.returns
returns c = rw c.flag.ensures.0
