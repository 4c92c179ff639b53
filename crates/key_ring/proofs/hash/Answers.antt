use Rattle.key_ring.proofs.hash.Goals as goal

pub returns : goal.returns
returns c = (rw (← c.numbers.ensures) c.key_hash.ensures.0, c.key_hash.ensures.1)
