use Rattle.round_trips.proofs.Steps.{all_over, zero_over, plain_over}
use Rattle.round_trips.proofs.over.Goals as goal

pub returns-then-sample-gt0 : goal.returns-then-sample-gt0
returns-then-sample-gt0 c =
    let a = c.args in
    all_over a.sample.negative a.sample.magnitude a.ns c.if-sample.true c.if-sample-gt0.true

pub returns-then-sample : goal.returns-then-sample
returns-then-sample c =
    let a = c.args in
    zero_over a.sample.negative a.sample.magnitude a.ns c.if-sample.true c.if-sample-gt0.false

pub returns : goal.returns
returns c =
    let a = c.args in
    plain_over a.sample.negative a.sample.magnitude a.ns c.if-sample.false
