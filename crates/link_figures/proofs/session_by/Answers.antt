use mathlib.Core.Path.{sym, ap}
use Rattle.monitor.specs.declared.State.{State}
use Rattle.link_figures.specs.Figures.{session_by}
use Rattle.link_figures.proofs.session_by.Goals as goal

pub returns-in-Idle : goal.returns-in-Idle
returns-in-Idle c = sym (ap (λ (s : State). session_by s c.args.losses) c.in-Idle.is)

pub returns-in-Active : goal.returns-in-Active
returns-in-Active c = sym (ap (λ (s : State). session_by s c.args.losses) c.in-Active.is)

pub returns-in-Failed : goal.returns-in-Failed
returns-in-Failed c = sym (ap (λ (s : State). session_by s c.args.losses) c.in-Failed.is)
