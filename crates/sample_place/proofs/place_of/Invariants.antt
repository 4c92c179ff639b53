-- `sample_place::place_of`: the loop's invariant: the counts passed and what is left make the rank.
use Prim.Native.Nat.{◌≤◌, ◌<◌, ◌+◌}
use mathlib.Core.Path.{◌≡◌}
use Rattle.sample_passes.specs.Passes.{sum_to}
use Rattle.sample_place.proofs.place_of.Given as goal

-- Assumes nothing.
abbrev pub invariant-loop-digit : goal.invariant-loop-digit
invariant-loop-digit l = (l.digit ≤ 255) × (l.rank < sum_to l.counts 256) × (sum_to l.counts l.digit + l.left ≡ l.rank)
