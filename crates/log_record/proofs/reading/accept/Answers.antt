use Rattle.log_record.proofs.reading.accept.Goals as goal

pub returns : goal.returns
returns c = rw (c.pending_by.ensures, c.flag_set.ensures, c.key.ensures, c.u64_at-tag.ensures, c.u64_at-time.ensures)
