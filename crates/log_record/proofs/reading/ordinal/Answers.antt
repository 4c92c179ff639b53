use Rattle.log_record.proofs.reading.ordinal.Goals as goal

pub returns : goal.returns
returns c = rw (c.ordinal_by.ensures, c.u32_at.ensures)
