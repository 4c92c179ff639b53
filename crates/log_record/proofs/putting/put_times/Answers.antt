use Rattle.log_record.proofs.putting.put_times.Goals as goal

pub returns : goal.returns
returns c = rw (c.put_u32.ensures, c.put_u64-3.ensures, c.put_u64-2.ensures, c.put_u64.ensures, c.offset_word-offset.ensures, c.reference_word-reference.ensures, c.time_word-received.ensures)
