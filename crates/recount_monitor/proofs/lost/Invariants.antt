use mathlib.Core.Path.{◌≡◌}
use Prim.Native.Nat.{◌-◌}
use Rattle.recount_queue.specs.Moves.{move_at, queued_at}
use Rattle.recount_monitor.specs.Session.{lost_in}
use Rattle.recount_monitor.proofs.lost.Given as goal

abbrev pub invariant-loop-i : goal.invariant-loop-i
invariant-loop-i l = lost_in l.threshold (queued_at l.timeout (move_at l.records.log.now l.records.marks.now)) l.initial.left l.from (l.to - l.from) ≡ lost_in l.threshold (queued_at l.timeout (move_at l.records.log.now l.records.marks.now)) l.left l.i (l.to - l.i)
