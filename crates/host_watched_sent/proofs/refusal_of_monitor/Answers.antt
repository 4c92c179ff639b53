use mathlib.Core.Path.{ap, ◌∙◌}
use Rattle.monitor.specs.declared.Monitor.{Monitor}
use Rattle.monitor.specs.Refusals.{refusal_of_sent}
use Rattle.host_watched_sent.proofs.refusal_of_monitor.Goals as goal

pub returns : goal.returns
returns c = c.refusal_of_sent.ensures ∙ ap (λ (m : Monitor). refusal_of_sent m c.args.room c.args.time) c.load.ensures
