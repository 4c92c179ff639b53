use mathlib.Core.Path.{refl}
use Rattle.link_report.proofs.Laws.{refused-outcome, played-outcome}
use Rattle.link_report.proofs.write_checked.Goals as goal

pub returns-in-Ok : goal.returns-in-Ok
returns-in-Ok c = played-outcome _ _ _ _ _ _ c.in-Ok.is c.write_played.ensures

pub returns-in-Err : goal.returns-in-Err
returns-in-Err c = refused-outcome _ _ _ _ _ _ c.in-Err.is refl
