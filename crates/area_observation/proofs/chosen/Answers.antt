use Rattle.area_observation.proofs.Laws.{keeps_first, takes_place, takes_none}
use Rattle.area_observation.proofs.chosen.Goals as goal

pub returns-then-first-ne0 : goal.returns-then-first-ne0
returns-then-first-ne0 c = let a = c.args in keeps_first a.first a.taken a.place c.if-first-ne0.true

pub returns-then-taken : goal.returns-then-taken
returns-then-taken c = let a = c.args in takes_place a.first a.taken a.place c.if-first-ne0.false c.if-taken.true

pub returns : goal.returns
returns c = let a = c.args in takes_none a.first a.taken a.place c.if-first-ne0.false c.if-taken.false
