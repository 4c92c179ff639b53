use Rattle.host_snapshot.proofs.show_round_trips.Goals as goal

pub returns : goal.returns
returns c = rw (c.place_delay.ensures, c.summary.ensures, c.rtt_of-rtt.ensures)
