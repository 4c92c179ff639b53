use Rattle.host_bits.proofs.Answers.{count-refused, count-told}
use Rattle.host_bits.proofs.ambrulicciu_bit_errors.Goals as goal

pub returns-in-Err : goal.returns-in-Err
returns-in-Err c = let a = c.args in count-refused a.padding.now a.pattern.now a.counts.now _ _ c.in-Err.ensures c.from.ensures

pub returns-in-Ok : goal.returns-in-Ok
returns-in-Ok c = let a = c.args in count-told a.padding.now a.pattern.now a.counts.now _ c.in-Ok.ensures
