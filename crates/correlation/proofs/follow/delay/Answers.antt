use Rattle.correlation.proofs.Span.{wide_fits, scaled_fits, sent-fits, delay-fits, delay_is}
use Rattle.correlation.proofs.follow.delay.Goals as goal

pub overflow_cast-result : goal.overflow_cast-result
overflow_cast-result c = wide_fits c.args.t4 c.args.t3 c.args.offset c.ranges.t4 c.ranges.t3 c.ranges.offset c.requires.0 c.requires.1 c.requires.2

pub overflow_mul-result : goal.overflow_mul-result
overflow_mul-result c = scaled_fits c.args.t4 c.args.t3 c.args.offset c.ranges.t4 c.ranges.t3 c.ranges.offset c.requires.0 c.requires.1 c.requires.2

pub overflow_sub-result : goal.overflow_sub-result
overflow_sub-result c = sent-fits c.args.t4 c.args.t3 c.args.offset c.ranges.t4 c.ranges.t3 c.ranges.offset c.requires.0 c.requires.1 c.requires.2

pub overflow_sub-result-2 : goal.overflow_sub-result-2
overflow_sub-result-2 c = delay-fits c.args.t4 c.args.t3 c.args.offset c.ranges.t4 c.ranges.t3 c.ranges.offset c.requires.0 c.requires.1 c.requires.2

pub returns : goal.returns
returns c = delay_is c.args.t4 c.args.t3 c.args.offset c.ranges.t4 c.ranges.t3 c.ranges.offset c.requires.0 c.requires.1 c.requires.2
