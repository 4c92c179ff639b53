use Rattle.probe_ring.proofs.Search.{Searching}
use Rattle.probe_ring.proofs.find.Given as goal

-- Assumes nothing.
abbrev pub invariant-loop-at : goal.invariant-loop-at
invariant-loop-at l = Searching 4096 l.probes l.links l.head l.initial.bound l.sequence l.hash l.bound l.slot l.at

abbrev pub decreases-loop-at : goal.decreases-loop-at
decreases-loop-at l = l.bound
