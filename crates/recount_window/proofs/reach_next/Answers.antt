use Rattle.recount_window.proofs.reach_next.Goals as goal

pub returns-in-Some : goal.returns-in-Some
returns-in-Some c = rw c.in-Some.is c.reach_with.ensures
