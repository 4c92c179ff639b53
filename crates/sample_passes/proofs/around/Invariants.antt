-- `sample_passes::around`: the loop's invariant: the counts are those of the samples passed.
use Rattle.std.proofs.Common.{◌≡◌, ◌+◌, ◌≤◌, length, take}
use Rattle.sample_passes.specs.Keys.{shifted}
use Rattle.sample_passes.specs.Counting.{below}
use Rattle.sample_passes.proofs.around.Given as goal

-- Assumes nothing.
abbrev pub invariant-loop-i : goal.invariant-loop-i
invariant-loop-i l =
    (l.i ≤ l.count) × (l.count ≤ length l.samples) × (l.under ≡ below (shifted l.bias) l.value (take l.i l.samples)) × (l.reach ≡ below (shifted l.bias) (l.value + 1) (take l.i l.samples))
