use Rattle.log_record.proofs.putting.put_accept.Goals as goal

pub returns : goal.returns
returns c = rw (c.put_pending.ensures, c.put_key.ensures)
