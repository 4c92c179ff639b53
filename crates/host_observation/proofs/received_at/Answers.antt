use Rattle.host_observation.proofs.received_at.Goals as goal

pub returns : goal.returns
returns c = rw (c.time_by.ensures, c.both-time.ensures.0, c.flag_set-there.ensures, c.flags.ensures)
