use mathlib.Core.Path.{sym, ap, ◌∙◌}
use Rattle.log_play_parts.specs.Parts.{monitor_of}
use Rattle.log_play_parts.proofs.monitor_of.Goals as goal

pub returns-in-None : goal.returns-in-None
returns-in-None c = c.new.ensures ∙ sym (ap monitor_of c.in-None.is)
