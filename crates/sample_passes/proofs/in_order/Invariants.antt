-- `sample_passes::in_order`: the loop's invariant: no step passed falls.
use Rattle.std.proofs.Common.{ℕ, ◌+◌, ◌<◌, ◌≤◌, length, get_or}
use Rattle.sample_passes.specs.Keys.{shifted}
use Rattle.sample_passes.proofs.in_order.Given as goal

-- Assumes nothing.
abbrev pub invariant-loop-i : goal.invariant-loop-i
invariant-loop-i l = (l.i ≤ l.count) × (l.count ≤ length l.samples) × ((k : ℕ) → k < l.i → shifted l.bias (get_or l.samples k 0) ≤ shifted l.bias (get_or l.samples (k + 1) 0))
