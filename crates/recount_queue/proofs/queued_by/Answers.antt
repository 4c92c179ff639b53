use native.Mathlib.Omega.{arith}
use borrow.Author.Tests.{lt-ltb, le-ltb}
use Rattle.recount_queue.proofs.queued_by.Goals as goal

pub returns-then-timeout-eq0 : goal.returns-then-timeout-eq0
returns-then-timeout-eq0 c = simp (le-ltb 0 c.args.timeout (omega (arith, c.if-timeout-eq0.true)))

pub returns : goal.returns
returns c = simp (lt-ltb 0 c.args.timeout (omega (arith, c.if-timeout-eq0.false))) c.sent_by.ensures
