use mathlib.Core.Path.{◌≡◌}
use Rattle.recount_queue.specs.Moves.{move_at}
use Prim.Native.Nat.{◌-◌, ◌≤◌}
use Rattle.recount_monitor.specs.Session.{line_in}
use Rattle.recount_monitor.proofs.line.Given as goal

abbrev pub invariant-loop-j : goal.invariant-loop-j
invariant-loop-j l = l.session ≡ line_in l.threshold l.timeout (move_at l.records.log.now l.records.marks.now) l.fronts l.j
