use mathlib.Core.Path.{ap, ◌∙◌}
use Rattle.monitor.specs.declared.Monitor.{Monitor}
use Rattle.monitor.specs.Refusals.{refusal_of}
use Rattle.host_watched_accept_words.proofs.refusal_of_monitor.Goals as goal

pub returns : goal.returns
returns c = c.refusal.ensures ∙ ap (λ (m : Monitor). refusal_of m c.args.room) c.load.ensures
