use mathlib.Core.Path.{◌≡◌}
use Prim.Native.Nat.{◌-◌, ◌≤◌}
use Rattle.limits.specs.Limits.{capacity}
use Rattle.recount_observed.specs.Observed.{observation_at}
use Rattle.recount_window.specs.Window.{start_of}
use Rattle.recount_direct.proofs.start_of.Given as goal

abbrev pub invariant-loop-j : goal.invariant-loop-j
invariant-loop-j l = (l.start ≡ start_of (observation_at l.records.log.now l.records.marks.now) capacity l.j) × (l.start ≤ l.j)
