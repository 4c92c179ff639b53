-- `sample_passes::least`: the loop's invariant: the distance leads to where the keys of the samples passed begin.
use Rattle.std.proofs.Common.{◌+◌, ◌-◌, ◌≤◌, length, take}
use Rattle.sample_passes.specs.Keys.{shifted}
use Rattle.sample_passes.specs.Passes.{Least}
use Rattle.sample_passes.proofs.least.Given as goal

-- Assumes nothing.
abbrev pub invariant-loop-i : goal.invariant-loop-i
invariant-loop-i l = (l.i ≤ l.count) × (l.count ≤ length l.samples) × (l.low ≤ l.high) × (l.distance ≤ l.high - l.low) × Least (shifted l.bias) (take l.i l.samples) l.low l.high (l.low + l.distance)
