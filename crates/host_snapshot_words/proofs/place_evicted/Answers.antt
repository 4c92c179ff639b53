use Rattle.host_snapshot_words.proofs.place_evicted.Goals as goal

pub returns : goal.returns
returns c = rw c.place.ensures
