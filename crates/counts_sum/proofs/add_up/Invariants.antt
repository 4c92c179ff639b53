use Rattle.std.proofs.Common.{◌≡◌, ◌*◌, ◌%◌, ◌^◌, ◌≤◌, length, take}
use Rattle.histogram.specs.Histogram.{total}
use Rattle.counts_sum.proofs.add_up.Given as goal

abbrev pub invariant-loop-here : goal.invariant-loop-here
invariant-loop-here l = (l.sum ≡ total (take l.here-index l.counts) % 2 ^ 64) × (total (take l.here-index l.counts) ≤ l.here-index * l.any) × (length l.counts ≤ 65536)
