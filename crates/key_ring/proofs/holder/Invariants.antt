use Rattle.chains.proofs.Loop.{Walking}
use Rattle.key_ring.proofs.Searches.{WalkingHolder}
use Rattle.key_ring.proofs.holder.Given as goal

-- Assumes nothing.
abbrev pub invariant-loop-place : goal.invariant-loop-place
invariant-loop-place l = WalkingHolder l.keys l.slots l.links l.number l.head l.initial.below l.initial.slot l.below l.slot l.place

abbrev pub decreases-loop-place : goal.decreases-loop-place
decreases-loop-place l = l.below
