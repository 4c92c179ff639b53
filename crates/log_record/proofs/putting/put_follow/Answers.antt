use Rattle.log_record.proofs.putting.put_follow.Goals as goal

pub returns : goal.returns
returns c = rw (c.put_u64-2.ensures, c.put_u64.ensures, c.put_u32.ensures, c.time_word-word.ensures, c.follow_time.ensures, c.follow_timestamp-timestamp.ensures, c.follow_sequence-sequence.ensures)
