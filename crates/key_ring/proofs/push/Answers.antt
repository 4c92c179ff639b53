use Rattle.key_ring.proofs.Steps.{push_is}
use Rattle.key_ring.proofs.push.Goals as goal

pub returns : goal.returns
returns c = push_is c.args.secret c.args.keys.now c.args.slots.now c.args.links.now c.args.ring c.args.key _ _ _ _ _ _ _ c.push_slot-at.ensures.0 c.numbers.ensures c.hash.ensures.0 c.link.ensures c.number_hash.ensures.0 c.link-2.ensures c.pushed.ensures.0
