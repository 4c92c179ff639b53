use Rattle.host_snapshot_words.proofs.place_replies.Goals as goal

pub returns : goal.returns
returns c = rw (c.place.ensures, c.reflector_number-2.ensures, c.reflector_known-2.ensures, c.reflector_number.ensures, c.reflector_known.ensures)
