use native.Mathlib.Omega.{arith}
use Rattle.offset_set.specs.Offsets.{offset_set}
use Rattle.offset_set.proofs.Search.{Searching}
use Rattle.offset_set.proofs.contains.Given as goal

-- Assumes nothing.
abbrev pub invariant-loop-slot : goal.invariant-loop-slot
invariant-loop-slot l = Searching 4096 (offset_set l.offsets l.links l.count) l.offset l.hash (omega arith) l.bound l.slot

abbrev pub decreases-loop-slot : goal.decreases-loop-slot
decreases-loop-slot l = l.bound
