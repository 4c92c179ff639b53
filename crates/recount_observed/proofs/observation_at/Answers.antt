use mathlib.Core.Path.{ap, ◌∙◌}
use Rattle.recount_observed.specs.Observed.{observation_of}
use Rattle.recount_observed.proofs.observation_at.Goals as goal

pub returns : goal.returns
returns c = c.observation_of.ensures ∙ ap observation_of c.seen_at.ensures
