use Rattle.host_area.proofs.Answers.{counters-refused, counters-served}
use Rattle.host_area.proofs.ambrulicciu_counters_read.Goals as goal

pub returns-in-Err : goal.returns-in-Err
returns-in-Err c = let a = c.args in counters-refused a.value.now a.counters.now _ _ c.in-Err.ensures c.from.ensures

pub returns-in-Ok : goal.returns-in-Ok
returns-in-Ok c = let a = c.args in counters-served a.value.now a.counters.now _ c.in-Ok.ensures
