use Rattle.recount_call.proofs.range.scales_fit.Goals as goal

pub returns-in-Some : goal.returns-in-Some
returns-in-Some c = rw c.in-Some.is
