use Rattle.std.specs.Prelude.{Option}
use Rattle.monitor.specs.declared.Monitor.{Monitor}
use mathlib.Core.Path.{sym, ap}
use Rattle.log_play_parts.specs.Parts.{watch_after}
use Rattle.log_play_parts.proofs.watch_after.Goals as goal

pub returns-in-Some : goal.returns-in-Some
returns-in-Some c = sym (ap (λ (w : Option Monitor). watch_after w c.args.monitor) c.in-Some.is)
