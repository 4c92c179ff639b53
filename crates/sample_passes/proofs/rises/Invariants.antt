-- `sample_passes::rises`: the loop's invariant: while n is 0, no step passed has risen.
use Rattle.std.proofs.Common.{◌≡◌, ℕ, ◌+◌, ◌<◌, ◌≤◌, length, get_or}
use Rattle.sample_passes.specs.Keys.{shifted}
use Rattle.sample_passes.proofs.rises.Given as goal

-- Assumes nothing.
abbrev pub invariant-loop-j : goal.invariant-loop-j
invariant-loop-j l = (l.j ≤ 16) × (l.base + 16 < length l.samples) × (l.n ≡ 0 → (k : ℕ) → k < l.j → shifted l.bias (get_or l.samples (l.base + k + 1) 0) ≤ shifted l.bias (get_or l.samples (l.base + k) 0))
