use Rattle.host_snapshot_words.proofs.place_loss.Goals as goal

pub returns : goal.returns
returns c = rw (c.place.ensures, c.thousandths_value.ensures, c.thousandths_known.ensures)
