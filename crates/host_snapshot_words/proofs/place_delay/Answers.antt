use Rattle.host_snapshot_words.proofs.place_delay.Goals as goal

pub returns : goal.returns
returns c = rw (c.place.ensures, c.ms_bits-3.ensures, c.ms_known-3.ensures, c.ms_bits-2.ensures, c.ms_known-2.ensures, c.ms_bits.ensures, c.ms_known.ensures)
