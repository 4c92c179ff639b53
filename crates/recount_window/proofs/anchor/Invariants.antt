use mathlib.Core.Path.{◌≡◌}
use Prim.Native.Nat.{◌-◌, ◌≤◌}
use Rattle.recount_observed.specs.Observed.{observation_at}
use Rattle.recount_window.specs.Window.{points_from}
use Rattle.history.specs.Given.{counters_of}
use Rattle.history.specs.DirectLoss.{anchor}
use Rattle.recount_window.proofs.anchor.Given as goal

abbrev pub invariant-loop-j : goal.invariant-loop-j
invariant-loop-j l = (counters_of l.found ≡ anchor (points_from (observation_at l.records.log.now l.records.marks.now) l.start (l.j - l.start)))
