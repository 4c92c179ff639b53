use Rattle.host_area.proofs.Answers.{told-refused, told-served}
use Rattle.host_area.proofs.ambrulicciu_area_observation.Goals as goal

pub returns-in-Err : goal.returns-in-Err
returns-in-Err c = let a = c.args in told-refused a.bytes.now a.observation.now _ _ c.in-Err.ensures c.from.ensures

pub returns-in-Ok : goal.returns-in-Ok
returns-in-Ok c = let a = c.args in told-served a.bytes.now a.observation.now _ _ c.in-Ok.ensures c.tell.ensures
