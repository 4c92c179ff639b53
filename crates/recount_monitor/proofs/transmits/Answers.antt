use mathlib.Core.Path.{◌≡◌}
use Prim.Native.Nat.{◌-◌}
use native.Mathlib.Omega.{arith}
use borrow.Author.Rules.{rules}
use Rattle.recount_queue.specs.Moves.{move_at}
use Rattle.recount_monitor.proofs.Turns.{on_starts, on_turn}
use Rattle.recount_monitor.proofs.transmits.Goals as goal

pub loop-j-init : goal.loop-j-init
loop-j-init c = on_starts 0 _

pub loop-j-preserved : goal.loop-j-preserved
loop-j-preserved c = on_turn 0 _ _ _ _ _ c.move_at-step.ensures c.transmits_next-on.ensures c.loop-j.invariant
