use Rattle.host_quantiles.proofs.Answers.{percentiles-refused, percentiles-served}
use Rattle.host_quantiles.proofs.ambrulicciu_quantiles_percentiles.Goals as goal

pub returns-in-Err : goal.returns-in-Err
returns-in-Err c =
    let at = c.args in
    percentiles-refused at.quantiles.now at.room.now at.percents.now at.shown.now _ at.present.now _ _ c.load-state.ensures c.percentiles-answer.ensures _ _ c.in-Err.is c.from.ensures

pub returns-in-Ok : goal.returns-in-Ok
returns-in-Ok c =
    let at = c.args in
    percentiles-served at.quantiles.now at.room.now at.percents.now at.shown.now _ at.present.now _ _ c.load-state.ensures c.percentiles-answer.ensures _ _ c.in-Ok.is c.flag.ensures.0
