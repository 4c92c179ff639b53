use mathlib.Core.Path.{◌≡◌}
use Prim.Native.Nat.{◌-◌, ◌≤◌}
use Rattle.recount_queue.specs.Moves.{move_at, queued_at}
use Rattle.recount_queue.specs.Queue.{front_to}
use Rattle.recount_queue.proofs.front_to.Given as goal

abbrev pub invariant-loop-i : goal.invariant-loop-i
invariant-loop-i l = front_to (queued_at l.timeout (move_at l.records.log.now l.records.marks.now)) l.sequence l.front l.n ≡ front_to (queued_at l.timeout (move_at l.records.log.now l.records.marks.now)) l.sequence l.i l.n
