use Prim.Native.Nat.{◌+◌}
use mathlib.Core.Path.{sym}
use native.Mathlib.Omega.{arith}
use borrow.Author.Tests.{lt-leb}
use Rattle.recount_queue.proofs.Loops.{due_is}
use Rattle.recount_queue.proofs.is_due.Goals as goal

pub returns-then-time-sent : goal.returns-then-time-sent
returns-then-time-sent c = sym (lt-leb (c.args.sent + c.args.timeout) c.args.time (omega (arith, c.if-time-sent.true)))

pub returns : goal.returns
returns c = due_is c.args.sent c.args.timeout c.args.time (omega (arith, c.if-time-sent.false))
