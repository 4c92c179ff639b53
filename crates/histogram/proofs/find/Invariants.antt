-- `histogram::find` The loop's invariant: from the bucket that is reached, what is left of the rank leads to the same
-- bucket, with as much left there. Assumes nothing.
use Rattle.std.proofs.Common.{◌≡◌, ◌+◌, drop}
use Rattle.histogram.specs.Histogram.{bucket_at, left_at}
use Rattle.histogram.proofs.find.Given as goal

abbrev pub invariant-loop-place : goal.invariant-loop-place
invariant-loop-place l = (l.place + bucket_at (drop l.place l.buckets) l.left ≡ bucket_at l.buckets l.rank) × (left_at (drop l.place l.buckets) l.left ≡ left_at l.buckets l.rank)
