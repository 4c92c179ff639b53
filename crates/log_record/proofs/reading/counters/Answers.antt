use Rattle.log_record.proofs.reading.counters.Goals as goal

pub returns : goal.returns
returns c = rw (c.counters_by.ensures, c.flag_set.ensures, c.u32_at-transmitted.ensures, c.u32_at-received.ensures, c.u32_at-sender.ensures)
