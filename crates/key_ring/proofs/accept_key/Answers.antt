use Rattle.key_ring.proofs.Steps.{evict_room, ends_room, accept_is}
use Rattle.key_ring.proofs.accept_key.Goals as goal

pub returns-then-ring-lt-CAPACITY : goal.returns-then-ring-lt-CAPACITY
returns-then-ring-lt-CAPACITY c =
    let a = c.args in
    accept_is a.secret a.keys.now a.slots.now a.links.now a.ring a.key _ _ _
    (evict_room a.secret a.keys.now a.slots.now a.links.now a.ring c.if-ring-lt-CAPACITY.true)
    (ends_room a.secret a.keys.now a.slots.now a.links.now a.ring c.if-ring-lt-CAPACITY.true)
    c.push.ensures
