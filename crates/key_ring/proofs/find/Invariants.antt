use Rattle.chains.proofs.Loop.{Walking}
use Rattle.key_ring.proofs.Searches.{WalkingKey}
use Rattle.key_ring.proofs.find.Given as goal

-- Assumes nothing.
abbrev pub invariant-loop-place : goal.invariant-loop-place
invariant-loop-place l = WalkingKey l.keys l.links l.key l.head l.initial.below l.initial.slot l.below l.slot l.place

abbrev pub decreases-loop-place : goal.decreases-loop-place
decreases-loop-place l = l.below
