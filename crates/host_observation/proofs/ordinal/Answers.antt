use Rattle.host_observation.proofs.ordinal.Goals as goal

pub returns : goal.returns
returns c = rw (c.ordinal_by.ensures, c.flag_set-there.ensures, c.flags.ensures)
