use mathlib.Core.Path.{◌∙◌}
use Rattle.bit_observation.proofs.Laws.{same_all}
use Rattle.bit_observation.proofs.same.Goals as goal

pub returns : goal.returns
returns c = c.eq.ensures ∙ same_all c.args.a.now c.args.b.now
