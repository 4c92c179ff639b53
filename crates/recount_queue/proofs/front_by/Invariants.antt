use mathlib.Core.Path.{◌≡◌}
use Prim.Native.Nat.{◌-◌, ◌≤◌}
use Rattle.recount_queue.specs.Moves.{move_at, queued_at}
use Rattle.recount_queue.specs.Queue.{front_by}
use Rattle.recount_queue.proofs.front_by.Given as goal

abbrev pub invariant-loop-i : goal.invariant-loop-i
invariant-loop-i l = front_by l.timeout (queued_at l.timeout (move_at l.records.log.now l.records.marks.now)) l.time l.front l.n ≡ front_by l.timeout (queued_at l.timeout (move_at l.records.log.now l.records.marks.now)) l.time l.i l.n
