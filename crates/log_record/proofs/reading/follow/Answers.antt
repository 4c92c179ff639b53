use Rattle.log_record.proofs.reading.follow.Goals as goal

pub returns : goal.returns
returns c = rw (c.follow_by.ensures, c.flag_set.ensures, c.flag_set-unknown.ensures, c.u64_at-timestamp.ensures, c.u32_at-sequence.ensures)
