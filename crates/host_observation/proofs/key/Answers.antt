use Rattle.host_observation.proofs.key.Goals as goal

pub returns : goal.returns
returns c = rw c.both.ensures.0
