use Rattle.recount_queue.proofs.goes.Goals as goal

pub returns-in-Some : goal.returns-in-Some
returns-in-Some c = rw c.in-Some.is c.is_due.ensures
