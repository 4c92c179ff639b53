use Rattle.series.proofs.Spans.{an_extreme}
use Rattle.series.proofs.extreme_of.Goals as goal

pub returns : goal.returns
returns c = an_extreme c.args.count c.args.ns c.if-count-eq0.false
