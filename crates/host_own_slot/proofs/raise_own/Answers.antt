use Rattle.chains.specs.Hash.{number_hash}
use Rattle.key_ring.specs.Table.{hash_of}
use Rattle.host_own_slot.proofs.Laws.{own-as}
use Rattle.host_own_slot.proofs.raise_own.Goals as goal

pub returns : goal.returns
returns c =
    own-as _ (hash_of c.args.secret) (number_hash c.args.secret) c.args.copies c.args.ring c.args.keys.now c.args.slots.now c.args.links.now c.args.words.now _ _ _ _ _
    c.holder-at.ensures
    c.words-held.ensures
    c.newest.ensures.0
    c.own_words.ensures
    c.store.ensures
