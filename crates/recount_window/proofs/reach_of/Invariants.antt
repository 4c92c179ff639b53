use mathlib.Core.Path.{◌≡◌}
use Prim.Native.Nat.{◌-◌, ◌≤◌}
use Rattle.recount_observed.specs.Observed.{observation_at}
use Rattle.recount_window.specs.Window.{points_from}
use Rattle.recount_window.specs.Reach.{reach_of}
use Rattle.recount_window.proofs.reach_of.Given as goal

abbrev pub invariant-loop-j : goal.invariant-loop-j
invariant-loop-j l = (l.r ≡ reach_of l.anchor (points_from (observation_at l.records.log.now l.records.marks.now) l.start (l.j - l.start))) × ((l.r.points ≤ l.j) × (l.r.above ≤ l.j))
