use Rattle.std.specs.Prelude.{Option}
use Rattle.monitor.specs.declared.Monitor.{Monitor}
use mathlib.Core.Path.{sym, ap, ◌∙◌}
use Rattle.link_steps.specs.Steps.{watch_refuses_sent}
use Rattle.log_play_parts.proofs.refuses_sent.Reads as reads
use Rattle.log_play_parts.proofs.refuses_sent.Lts as lts
use Rattle.monitor.proofs.Monitor.refusal_of_sent.Reads as refusal-of-sent-reads
use Rattle.log_play_parts.proofs.refuses_sent.Goals as goal

pub returns-in-Some : goal.returns-in-Some
returns-in-Some c = c.refusal_of_sent.ensures ∙ sym (ap (λ (w : Option Monitor). watch_refuses_sent w c.args.room c.args.sent) c.in-Some.is)
