use Rattle.host_snapshot_words.proofs.place_direct_counts.Goals as goal

pub returns : goal.returns
returns c = rw (c.place.ensures, c.flag.ensures.0)
