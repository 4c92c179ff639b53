use Rattle.log_record.proofs.putting.put_pending.Goals as goal

pub returns : goal.returns
returns c = rw (c.put_u64-2.ensures, c.put_u64.ensures, c.pending_tag-tag.ensures, c.pending_time-time.ensures)
