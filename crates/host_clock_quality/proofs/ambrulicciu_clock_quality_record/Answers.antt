use Rattle.host_clock_quality.proofs.Answers.{record-served, record-refused}
use Rattle.host_clock_quality.proofs.ambrulicciu_clock_quality_record.Goals as goal

pub returns-in-Ok : goal.returns-in-Ok
returns-in-Ok c =
    let at = c.args in
    record-served at.quality.now at.estimated at.sender at.reflector _ _ _ c.load-state.ensures c.estimates_from-estimates.ensures c.record-answer.ensures _ _ c.in-Ok.is c.store.ensures

pub returns-in-Err : goal.returns-in-Err
returns-in-Err c =
    let at = c.args in
    record-refused at.quality.now at.estimated at.sender at.reflector _ _ _ c.load-state.ensures c.estimates_from-estimates.ensures c.record-answer.ensures _ _ c.in-Err.is c.from.ensures
