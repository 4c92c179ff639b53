use Rattle.log_record.proofs.putting.put_counts.Goals as goal

pub returns : goal.returns
returns c = rw (c.put_u32-4.ensures, c.put_u32-3.ensures, c.put_u32-2.ensures, c.put_u32.ensures, c.transmitted_count-transmitted.ensures, c.received_count-received.ensures, c.sender_count-sender.ensures, c.ordinal_number-number.ensures)
