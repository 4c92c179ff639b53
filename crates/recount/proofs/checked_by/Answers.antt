use Rattle.recount.proofs.checked_by.Goals as goal

pub returns-then-fit : goal.returns-then-fit
returns-then-fit c = rw c.if-fit.true c.checked_of.ensures

pub returns : goal.returns
returns c = rw c.if-fit.false
