use Rattle.log_record.proofs.reading.time.Goals as goal

pub returns : goal.returns
returns c = rw (c.time_by.ensures, c.u64_at.ensures)
