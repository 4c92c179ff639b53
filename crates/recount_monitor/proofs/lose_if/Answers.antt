use Rattle.recount_monitor.proofs.lose_if.Goals as goal

pub returns-in-Some : goal.returns-in-Some
returns-in-Some c = rw c.in-Some.is c.lose_one.ensures
