use mathlib.Core.Path.{sym, ap}
use mathlib.Core.Bool.{Bool, cond}
use Prim.Native.Nat.{◌+◌}
use native.Mathlib.Omega.{arith}
use borrow.Author.Tests.{lt-ltb, le-ltb}
use Rattle.host_own_slot.proofs.one_more.Goals as goal

pub returns-then-count-lt65535 : goal.returns-then-count-lt65535
returns-then-count-lt65535 c = (sym (ap (λ (b : Bool). cond b (c.args.count + 1) c.args.count) (lt-ltb _ _ c.if-count-lt65535.true)), omega (arith, c.if-count-lt65535.true))

pub returns : goal.returns
returns c = (sym (ap (λ (b : Bool). cond b (c.args.count + 1) c.args.count) (le-ltb _ _ c.if-count-lt65535.false)), c.requires)
