use Rattle.host_observation.proofs.format.Goals as goal

pub returns : goal.returns
returns c = rw (c.format_by.ensures, c.flag_set.ensures, c.flags.ensures)
