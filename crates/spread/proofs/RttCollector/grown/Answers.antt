use Rattle.spread.proofs.Steps.{sum_below, differences-below, count-below, grown_is}
use Rattle.spread.proofs.RttCollector.grown.Goals as goal

pub sum_with-sum-requires : goal.sum_with-sum-requires
sum_with-sum-requires c = sum_below c.args.self c.requires

pub with-jitter-requires : goal.with-jitter-requires
with-jitter-requires c =
    let s = c.args.self in
    (differences-below s c.requires, count-below s c.requires)

pub returns : goal.returns
returns c =
    let a = c.args in
    grown_is a.self a.next a.value _ _ _ _ _ c.origin_with-origin.ensures c.from_u64.ensures c.sum_with-sum.ensures c.with-welford.ensures c.with-jitter.ensures
