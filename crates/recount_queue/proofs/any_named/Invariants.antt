use mathlib.Core.Path.{◌≡◌}
use Prim.Native.Nat.{◌-◌}
use Rattle.recount_queue.specs.Moves.{move_at, queued_at}
use Rattle.recount_queue.specs.Queue.{any_named}
use Rattle.recount_queue.proofs.any_named.Given as goal

abbrev pub invariant-loop-i : goal.invariant-loop-i
invariant-loop-i l = any_named (queued_at l.timeout (move_at l.records.log.now l.records.marks.now)) l.sequence l.from (l.to - l.from) ≡ any_named (queued_at l.timeout (move_at l.records.log.now l.records.marks.now)) l.sequence l.i (l.to - l.i)
