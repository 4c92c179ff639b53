use Rattle.host_area.proofs.Answers.{write-refused, write-served}
use Rattle.host_area.proofs.ambrulicciu_area_write.Goals as goal

pub returns-in-Err : goal.returns-in-Err
returns-in-Err c = let a = c.args in write-refused a.items.now a.values.now a.bytes.now _ a.length.now _ _ c.in-Err.ensures c.from.ensures

pub returns-in-Ok : goal.returns-in-Ok
returns-in-Ok c = let a = c.args in write-served a.items.now a.values.now a.bytes.now _ a.length.now _ c.in-Ok.ensures
