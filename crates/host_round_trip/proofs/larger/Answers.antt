use mathlib.Core.Path.{sym, ap}
use mathlib.Core.Bool.{Bool, cond}
use borrow.Author.Tests.{lt-ltb, le-ltb}
use Rattle.host_round_trip.proofs.larger.Goals as goal

pub returns-then-most-ns : goal.returns-then-most-ns
returns-then-most-ns c = sym (ap (λ (b : Bool). cond b c.args.ns c.args.most) (lt-ltb _ _ c.if-most-ns.true))

pub returns-else-most-ns : goal.returns-else-most-ns
returns-else-most-ns c = sym (ap (λ (b : Bool). cond b c.args.ns c.args.most) (le-ltb _ _ c.if-most-ns.false))
