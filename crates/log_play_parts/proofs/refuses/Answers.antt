use Rattle.std.specs.Prelude.{Option}
use Rattle.monitor.specs.declared.Monitor.{Monitor}
use mathlib.Core.Path.{sym, ap, ◌∙◌}
use Rattle.link_steps.specs.Steps.{watch_refuses}
use Rattle.log_play_parts.proofs.refuses.Reads as reads
use Rattle.log_play_parts.proofs.refuses.Lts as lts
use Rattle.monitor.proofs.Monitor.refusal.Reads as refusal-reads
use Rattle.log_play_parts.proofs.refuses.Goals as goal

pub returns-in-Some : goal.returns-in-Some
returns-in-Some c = c.refusal.ensures ∙ sym (ap (λ (w : Option Monitor). watch_refuses w c.args.room) c.in-Some.is)
