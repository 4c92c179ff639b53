use Rattle.host_clock_sample.proofs.Laws.{told_as}
use Rattle.host_clock_sample.proofs.count.Goals as goal

pub returns-in-None : goal.returns-in-None
returns-in-None c = told_as c.args.ledger.now _ _ _ c.in-None.is c.count_any.ensures

pub returns-in-Some : goal.returns-in-Some
returns-in-Some c = told_as c.args.ledger.now _ _ _ c.in-Some.is c.count_pair.ensures
