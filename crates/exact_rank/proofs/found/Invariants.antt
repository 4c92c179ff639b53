-- `exact_rank::found`: the loop's invariant: every search follows what it was. The measure is what is left of the first one's range.
use Rattle.std.proofs.Common.{◌-◌, ◌≤◌, length, take}
use Rattle.sample_passes.specs.Keys.{shifted}
use Rattle.exact_rank.specs.Searches.{AllFollow}
use Rattle.exact_rank.proofs.found.Given as goal

-- Assumes nothing.
abbrev pub invariant-loop-moved : goal.invariant-loop-moved
invariant-loop-moved l = (l.count ≤ length l.samples) × AllFollow (shifted l.bias) (take l.count l.samples) l.initial.moved l.moved

abbrev pub decreases-loop-moved : goal.decreases-loop-moved
decreases-loop-moved l = l.moved.first.high - l.moved.first.low
