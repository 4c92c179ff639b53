-- `sample_passes::digits`: the loop's invariant: each count is that of its digit among the samples passed.
use Rattle.std.proofs.Common.{◌≡◌, ◌^◌, ◌≤◌, length, take}
use Rattle.sample_passes.specs.Keys.{shifted}
use Rattle.sample_passes.specs.Passes.{Counted}
use Rattle.sample_passes.proofs.digits.Given as goal

-- Assumes nothing.
abbrev pub invariant-loop-i : goal.invariant-loop-i
invariant-loop-i l = (l.i ≤ l.count) × (l.count ≤ length l.samples) × (length l.counts ≡ 256) × Counted (shifted l.bias) (take l.i l.samples) l.low l.high (2 ^ l.shift) l.counts
