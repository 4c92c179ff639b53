use mathlib.Core.Path.{◌≡◌}
use Prim.Native.Nat.{◌-◌, ◌≤◌}
use Rattle.recount_queue.specs.Moves.{move_at}
use Rattle.recount_monitor.specs.Fronts.{transmits_in}
use Rattle.recount_monitor.proofs.transmits.Given as goal

abbrev pub invariant-loop-j : goal.invariant-loop-j
invariant-loop-j l = l.on ≡ transmits_in (move_at l.records.log.now l.records.marks.now) l.j
