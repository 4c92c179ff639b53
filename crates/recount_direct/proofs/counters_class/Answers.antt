use Rattle.recount_direct.proofs.counters_class.Goals as goal

pub returns-in-Some : goal.returns-in-Some
returns-in-Some c = rw c.in-Some.is c.point_class.ensures
