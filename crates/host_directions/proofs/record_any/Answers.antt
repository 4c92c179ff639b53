use Rattle.std.proofs.Common.{ap, ◌∙◌, Ok}
use Rattle.host_directions.proofs.Answers.{record-refused, record-full, record-counted}
use Rattle.host_directions.proofs.record_any.Goals as goal

pub returns-in-Err : goal.returns-in-Err
returns-in-Err c =
    let a = c.args in
    record-refused a.directions.now a.slice.now _ a.recorded.now a.reverse a.value _ _ c.load_own-own.ensures c.record_own-answer.ensures _ _ c.in-Err.is c.from.ensures

pub returns-in-Ok-None : goal.returns-in-Ok-None
returns-in-Ok-None c =
    let a = c.args in
    record-full a.directions.now a.slice.now _ a.recorded.now a.reverse a.value _ _ c.load_own-own.ensures c.record_own-answer.ensures (c.in-Ok-None.is ∙ ap Ok (rw c.in-Ok-None.is at c.in-Ok-None.field-0-is))

pub returns-in-Ok-Some : goal.returns-in-Ok-Some
returns-in-Ok-Some c =
    let a = c.args in
    record-counted a.directions.now a.slice.now _ a.recorded.now a.reverse a.value _ _ c.load_own-own.ensures c.record_own-answer.ensures _ _ (c.in-Ok-Some.is ∙ ap Ok (rw c.in-Ok-Some.is at c.in-Ok-Some.field-0-is)) c.store_own.ensures
