use mathlib.Core.Path.{refl}
use Rattle.key_ring.proofs.Steps.{ends_full, accept_is}
use Rattle.key_ring.proofs.replace.Goals as goal

pub returns : goal.returns
returns c =
    let a = c.args in
    accept_is a.secret a.keys.now a.slots.now a.links.now a.ring a.key _ _ _
    c.evict.ensures
    (ends_full a.secret a.keys.now a.keys.now a.links.now a.ring _ _ _ _ _ c.requires.4 refl c.key_hash-by_key.ensures.0 c.end_at.ensures c.number_hash-by_number.ensures.0 c.end_at-2.ensures)
    c.push.ensures
