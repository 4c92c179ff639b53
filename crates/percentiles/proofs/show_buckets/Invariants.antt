-- `percentiles::show_buckets` The loop's invariant: the percentiles passed have their values, and the words after them are as
use mathlib.Core.Path.{◌≡◌}
use mathlib.Core.List.{◌++◌, map}
use lib.ListN.{length, take, drop}
use Rattle.percentiles.specs.Percentiles.{percentile}
use Rattle.percentiles.proofs.show_buckets.Given as goal

-- they were. Assumes nothing.
abbrev pub invariant-loop-i : goal.invariant-loop-i
invariant-loop-i l = (length l.initial.shown ≡ length l.ps) × (length l.shown ≡ length l.ps) × (l.shown ≡ map (percentile l.q l.room) (take l.i l.ps) ++ drop l.i l.initial.shown)
