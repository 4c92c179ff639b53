use Rattle.host_snapshot_words.proofs.place_spans.Goals as goal

pub returns : goal.returns
returns c = rw (c.place.ensures, c.packets_number-6.ensures, c.packets_known-6.ensures, c.packets_number-5.ensures, c.packets_known-5.ensures, c.packets_number-4.ensures, c.packets_known-4.ensures, c.packets_number-3.ensures, c.packets_known-3.ensures, c.packets_number-2.ensures, c.packets_known-2.ensures, c.packets_number.ensures, c.packets_known.ensures)
