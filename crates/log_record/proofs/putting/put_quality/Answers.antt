use Rattle.log_record.proofs.putting.put_quality.Goals as goal

pub returns : goal.returns
returns c = rw (c.put_u16-2.ensures, c.put_u16.ensures, c.reflector_wire-reflector.ensures, c.sender_wire-sender.ensures)
