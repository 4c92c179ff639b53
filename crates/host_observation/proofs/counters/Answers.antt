use Rattle.host_observation.proofs.counters.Goals as goal

pub returns : goal.returns
returns c = rw (c.counters_by.ensures, c.flag_set-there.ensures, c.flags.ensures)
