use borrow.Author.Tests.{le-leb, lt-leb}
use native.Mathlib.Omega.{arith}
use Rattle.recount_monitor.proofs.lose_one.Goals as goal

pub returns-then-threshold-more-2 : goal.returns-then-threshold-more-2
returns-then-threshold-more-2 c = rw (c.in-Active.is, ← c.one_more-more-in-Active.ensures, le-leb c.args.threshold c.one_more-more-in-Active.result (omega (arith, c.if-threshold-more-2.true)))

pub returns-else-threshold-more-2 : goal.returns-else-threshold-more-2
returns-else-threshold-more-2 c = rw (c.in-Active.is, ← c.one_more-more-in-Active.ensures, lt-leb c.args.threshold c.one_more-more-in-Active.result (omega (arith, c.if-threshold-more-2.false)))

pub returns-in-Failed : goal.returns-in-Failed
returns-in-Failed c = rw (c.in-Failed.is, ← c.one_more.ensures)
