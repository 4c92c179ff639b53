use Rattle.host_observation.proofs.follow.Goals as goal

pub returns : goal.returns
returns c = rw (c.follow_by.ensures, c.flag_set.ensures, c.flag_set-unknown.ensures, c.both-timestamp.ensures.0, c.flags-flags.ensures)
