use borrow.Author.Tests.{eq-eqb, ne_eqb}
use Rattle.history.specs.DirectLoss.{direct_class}
use Rattle.recount_direct.proofs.point_class.Goals as goal

pub returns-in-None : goal.returns-in-None
unfolding direct_class
returns-in-None c = rw c.in-None.is

pub returns-then-c-number : goal.returns-then-c-number
unfolding direct_class
returns-then-c-number c = rw (c.in-Some.is, eq-eqb _ _ c.if-c-number.true) c.on_window.ensures

pub returns-else-c-number : goal.returns-else-c-number
unfolding direct_class
returns-else-c-number c = rw (c.in-Some.is, ne_eqb _ _ c.if-c-number.false)
