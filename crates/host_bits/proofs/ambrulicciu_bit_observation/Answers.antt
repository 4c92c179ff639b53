use Rattle.host_bits.proofs.Answers.{observe-refused, observe-told}
use Rattle.host_bits.proofs.ambrulicciu_bit_observation.Goals as goal

pub returns-in-Err : goal.returns-in-Err
returns-in-Err c =
    let a = c.args in
    observe-refused a.items.now a.bytes.now a.pattern.now a.size a.intact a.wanted a.answer.now _ _ c.in-Err.ensures c.from.ensures

pub returns-in-Ok : goal.returns-in-Ok
returns-in-Ok c =
    let a = c.args in
    observe-told a.items.now a.bytes.now a.pattern.now a.size a.intact a.wanted a.answer.now _ _ c.in-Ok.ensures c.tell.ensures
