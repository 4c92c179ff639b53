use Rattle.round_trips.proofs.Steps.{none-under, plain-under}
use Rattle.round_trips.proofs.under.Goals as goal

pub returns-then-sample : goal.returns-then-sample
returns-then-sample c =
    let a = c.args in
    none-under a.sample.negative a.sample.magnitude a.ns c.if-sample.true

pub returns : goal.returns
returns c =
    let a = c.args in
    plain-under a.sample.negative a.sample.magnitude a.ns c.if-sample.false
