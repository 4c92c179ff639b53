use Rattle.host_quantiles.proofs.Answers.{record-kept}
use Rattle.host_quantiles.proofs.record_any.Goals as goal

pub returns : goal.returns
returns c =
    let a = c.args in
    record-kept a.quantiles.now a.room.now _ a.recorded.now a.value _ _ c.load-state.ensures c.record-answer.ensures _ _ _ c.keep.ensures
