use Rattle.std.specs.Prelude.{Some}
use mathlib.Core.Path.{ap, ◌∙◌}
use Rattle.log_settings.proofs.Laws.{present}
use Rattle.log_settings.proofs.watch_by.Goals as goal

pub returns : goal.returns
returns c = ap Some c.new-monitor.ensures ∙ present _ _ c.if-threshold-eq0.false
