use Rattle.host_area.proofs.Answers.{follow_up_refused, follow_up_served}
use Rattle.host_area.proofs.ambrulicciu_follow_up_read.Goals as goal

pub returns-in-Err : goal.returns-in-Err
returns-in-Err c = let a = c.args in follow_up_refused a.value.now a.follow.now _ _ c.in-Err.ensures c.from.ensures

pub returns-in-Ok : goal.returns-in-Ok
returns-in-Ok c = let a = c.args in follow_up_served a.value.now a.follow.now _ c.in-Ok.ensures
