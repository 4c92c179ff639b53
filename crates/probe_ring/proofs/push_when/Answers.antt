use Rattle.probe_ring.proofs.Leaves.{pushed_as}
use Rattle.probe_ring.proofs.push_when.Goals as goal

pub returns : goal.returns
returns c = (pushed_as 4096 _ _ _ _ _ _ _ _ _ c.requires.0 c.push_slot-slot.ensures.0 (c.number_hash-hash.ensures.0) c.pushed-next.ensures.0 c.put.ensures c.link.ensures _ c.count_of-before.ensures, c.pushed-next.ensures.1, c.push_slot-slot.ensures.1)
