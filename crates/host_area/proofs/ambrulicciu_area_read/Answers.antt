use Rattle.host_area.proofs.Answers.{read-refused, read-served}
use Rattle.host_area.proofs.ambrulicciu_area_read.Goals as goal

pub returns-in-Err : goal.returns-in-Err
returns-in-Err c = let a = c.args in read-refused a.bytes.now a.items.now _ a.count.now _ _ c.in-Err.ensures c.from.ensures

pub returns-in-Ok : goal.returns-in-Ok
returns-in-Ok c = let a = c.args in read-served a.bytes.now a.items.now _ a.count.now _ c.in-Ok.ensures
