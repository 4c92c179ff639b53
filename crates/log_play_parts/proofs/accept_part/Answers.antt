use mathlib.Core.Path.{ap, ◌∙◌}
use mathlib.Core.Bool.{Bool}
use Rattle.log_play_parts.specs.Parts.{part_with}
use Rattle.log_play_parts.proofs.accept_part.Goals as goal

pub returns : goal.returns
returns c = c.plain_part.ensures ∙ ap (λ (b : Bool). part_with c.args.given.number b) c.was_unique.ensures
