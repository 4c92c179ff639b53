-- `percentiles::show_exact` The loop's invariant is that of `show_buckets`; past the last percentile all are shown. Assumes nothing.
use mathlib.Core.Path.{◌≡◌}
use mathlib.Core.List.{◌++◌, map}
use Prim.Native.Nat.{◌-◌}
use lib.ListN.{length, take, drop}
use Rattle.percentiles.specs.Percentiles.{percentile}
use Rattle.percentiles.proofs.show_exact.Given as goal

abbrev pub invariant-loop-i : goal.invariant-loop-i
invariant-loop-i l = (length l.initial.shown ≡ length l.ps) × (length l.shown ≡ length l.ps) × (l.shown ≡ map (percentile l.q l.room) (take l.i l.ps) ++ drop l.i l.initial.shown)

abbrev pub decreases-loop-i : goal.decreases-loop-i
decreases-loop-i l = length l.ps - l.i
