use mathlib.Core.Path.{◌≡◌}
use Rattle.recount_queue.specs.Moves.{move_at}
use Prim.Native.Nat.{◌-◌, ◌≤◌}
use lib.ListN.{length}
use Rattle.recount_monitor.specs.Fronts.{fronts_to}
use Rattle.recount_monitor.proofs.front_records.Given as goal

abbrev pub invariant-loop-i : goal.invariant-loop-i
invariant-loop-i l = (l.fronts ≡ fronts_to l.timeout (move_at l.records.log.now l.records.marks.now) l.initial.fronts l.i) × (length l.fronts ≡ length l.initial.fronts)
