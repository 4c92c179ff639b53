use Rattle.std.proofs.Common.{ap, ◌∙◌, Ok}
use Rattle.host_spread.proofs.Answers.{record-refused, record-full, record-counted}
use Rattle.host_spread.proofs.record_any.Goals as goal

pub returns-then-steps-2 : goal.returns-then-steps-2
returns-then-steps-2 c =
    let a = c.args in
    record-counted a.spread.now a.room.now _ a.recorded.now a.value _ _ c.load-state.ensures c.record-answer.ensures _ _ (c.in-Ok-Some.is ∙ ap Ok (rw c.in-Ok-Some.is at c.in-Ok-Some.field-0-is)) c.store_numbers.ensures

pub returns-in-Err : goal.returns-in-Err
returns-in-Err c =
    let a = c.args in
    record-refused a.spread.now a.room.now _ a.recorded.now a.value _ _ c.load-state.ensures c.record-answer.ensures _ _ c.in-Err.is c.from.ensures

pub returns-in-Ok-None : goal.returns-in-Ok-None
returns-in-Ok-None c =
    let a = c.args in
    record-full a.spread.now a.room.now _ a.recorded.now a.value _ _ c.load-state.ensures c.record-answer.ensures (c.in-Ok-None.is ∙ ap Ok (rw c.in-Ok-None.is at c.in-Ok-None.field-0-is))

pub returns-after-steps : goal.returns-after-steps
returns-after-steps c =
    let a = c.args in
    record-counted a.spread.now a.room.now _ a.recorded.now a.value _ _ c.load-state.ensures c.record-answer.ensures _ _ (c.in-Ok-Some.is ∙ ap Ok (rw c.in-Ok-Some.is at c.in-Ok-Some.field-0-is)) c.store.ensures
