use Rattle.std.specs.Prelude.{Result}
use Rattle.limits.specs.declared.Refusal.{Refusal}
use Rattle.limits.specs.Numbers.{numbered}
use Rattle.monitor.specs.declared.Monitor.{Monitor}
use mathlib.Core.Path.{sym, ap, ◌∙◌}
use Rattle.log_play_turn.proofs.Laws.{monitor_by, idles, stays}
use Rattle.log_play_turn.proofs.idled.Goals as goal

pub returns-in-Ok : goal.returns-in-Ok
returns-in-Ok c = sym (ap (λ (r : Result Monitor Refusal). monitor_by c.args.monitor (numbered r)) c.in-Ok.is) ∙ idles _ _ _ c.if-kind-eq5.true c.idle.ensures

pub returns-in-Err : goal.returns-in-Err
returns-in-Err c = sym (ap (λ (r : Result Monitor Refusal). monitor_by c.args.monitor (numbered r)) c.in-Err.is) ∙ idles _ _ _ c.if-kind-eq5.true c.idle.ensures

pub returns-else-kind-eq5 : goal.returns-else-kind-eq5
returns-else-kind-eq5 c = stays _ _ c.if-kind-eq5.false
