use Rattle.log_record.proofs.reading.sent.Goals as goal

pub returns : goal.returns
returns c = rw (c.u64_at-2.ensures, c.u64_at.ensures, c.u32_at-3.ensures, c.u32_at-2.ensures, c.u32_at.ensures)
