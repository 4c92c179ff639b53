use Rattle.host_snapshot.proofs.show_delay.Goals as goal

pub returns : goal.returns
returns c = rw (c.place_delay.ensures, c.summary.ensures, c.delay_of-delay.ensures)
