use Rattle.series.proofs.Spans.{summary_is}
use Rattle.series.proofs.summary.Goals as goal

pub returns : goal.returns
returns c =
    let a = c.args in
    summary_is a.q a.sum _ _ _ _ _ c.span_of-least.ensures c.span_of-most.ensures c.extreme_of-min.ensures c.extreme_of-max.ensures c.summary.ensures
