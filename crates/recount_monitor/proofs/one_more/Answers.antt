use borrow.Author.Tests.{lt-ltb, le-ltb}
use native.Mathlib.Omega.{arith}
use Rattle.monitor.specs.States.{most_losses}
use Rattle.recount_monitor.proofs.one_more.Goals as goal

pub returns-then-losses-lt-MOST_LOSSES : goal.returns-then-losses-lt-MOST_LOSSES
returns-then-losses-lt-MOST_LOSSES c = simp (lt-ltb c.args.losses most_losses c.if-losses-lt-MOST_LOSSES.true)

pub returns : goal.returns
returns c = simp (le-ltb c.args.losses most_losses (omega (arith, c.if-losses-lt-MOST_LOSSES.false)))
