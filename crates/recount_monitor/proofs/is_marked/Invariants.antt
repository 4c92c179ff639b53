use mathlib.Core.Path.{◌≡◌}
use Prim.Native.Nat.{◌-◌, ◌≤◌}
use Rattle.recount_queue.specs.Moves.{move_at}
use Rattle.recount_monitor.specs.Fronts.{marked_in}
use Rattle.recount_monitor.proofs.is_marked.Given as goal

abbrev pub invariant-loop-j : goal.invariant-loop-j
invariant-loop-j l = l.found ≡ marked_in l.timeout (move_at l.records.log.now l.records.marks.now) l.fronts l.sequence l.j
