use Rattle.host_snapshot_words.proofs.place_largest.Goals as goal

pub returns : goal.returns
returns c = rw (c.place.ensures, c.largest_bits.ensures.0, c.largest_word.ensures)
