use mathlib.Core.Path.{◌≡◌}
use Prim.Native.Nat.{◌-◌, ◌≤◌}
use Rattle.recount_observed.specs.Observed.{observation_at}
use Rattle.recount_window.specs.Window.{points_from}
use Rattle.history.specs.Counting.{has}
use Rattle.history.specs.DirectLoss.{seen}
use Rattle.recount_window.proofs.was_seen.Given as goal

abbrev pub invariant-loop-j : goal.invariant-loop-j
invariant-loop-j l = (l.found ≡ has (seen l.anchor (points_from (observation_at l.records.log.now l.records.marks.now) l.start (l.j - l.start))) l.wanted)
