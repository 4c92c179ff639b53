use mathlib.Core.Path.{sym, ap}
use mathlib.Core.Bool.{Bool, cond}
use borrow.Author.Tests.{lt-ltb, le-ltb}
use Rattle.host_round_trip.proofs.smaller.Goals as goal

pub returns-then-ns-least : goal.returns-then-ns-least
returns-then-ns-least c = sym (ap (λ (b : Bool). cond b c.args.ns c.args.least) (lt-ltb _ _ c.if-ns-least.true))

pub returns-else-ns-least : goal.returns-else-ns-least
returns-else-ns-least c = sym (ap (λ (b : Bool). cond b c.args.ns c.args.least) (le-ltb _ _ c.if-ns-least.false))
