use mathlib.Core.Path.{ap, ◌∙◌}
use Rattle.recount_queue.specs.Moves.{queued_by}
use Rattle.recount_queue.proofs.queued_at.Goals as goal

pub returns : goal.returns
returns c = c.queued_by.ensures ∙ ap (queued_by c.args.timeout) c.move_at-step.ensures
