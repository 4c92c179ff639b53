use Rattle.area_observation.proofs.Laws.{noted-said}
use Rattle.area_observation.proofs.noted.Goals as goal

pub returns : goal.returns
returns c = let a = c.args in noted-said a.found a.flags a.kind a.place _ _ c.chosen-counters.ensures c.chosen-follow.ensures
