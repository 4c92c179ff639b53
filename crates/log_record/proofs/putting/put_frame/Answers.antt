use Rattle.log_record.proofs.putting.put_frame.Goals as goal

pub returns : goal.returns
returns c = rw (c.put_u8-3.ensures, c.put_u8-2.ensures, c.put_u8.ensures)
