-- `histogram::total_is` The loop's invariant: the two sums of halves make the sum of the buckets passed, and neither
-- can wrap. Assumes nothing.
use Rattle.std.proofs.Common.{◌≡◌, ◌+◌, ◌*◌, ◌^◌, ◌≤◌, length, take}
use Rattle.histogram.specs.Histogram.{total}
use Rattle.histogram.proofs.total_is.Given as goal

abbrev pub invariant-loop-here : goal.invariant-loop-here
invariant-loop-here l = (l.low + l.high * 2 ^ 32 ≡ total (take l.here-index l.buckets)) × (l.low ≤ l.here-index * 4294967295) × (l.high ≤ l.here-index * 4294967295) × (length l.buckets ≤ 65536)
