use Rattle.host_observation.proofs.estimates.Goals as goal

pub returns : goal.returns
returns c = rw (c.estimates_by.ensures, c.high_half-reflector.ensures, c.low_half-sender.ensures, c.flag_set-there.ensures, c.flags.ensures)
