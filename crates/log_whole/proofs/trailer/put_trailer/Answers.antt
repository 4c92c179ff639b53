use Rattle.log_whole.proofs.trailer.put_trailer.Goals as goal

pub returns : goal.returns
returns c = rw (c.put_u32-3.ensures, c.put_u64.ensures, c.put_u16-2.ensures, c.put_u16.ensures, c.put_u32-2.ensures, c.put_u32.ensures)
