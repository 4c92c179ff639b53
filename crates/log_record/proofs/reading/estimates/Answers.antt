use Rattle.log_record.proofs.reading.estimates.Goals as goal

pub returns : goal.returns
returns c = rw (c.estimates_by.ensures, c.flag_set.ensures, c.u16_at-reflector.ensures, c.u16_at-sender.ensures)
