use Rattle.directions.proofs.Steps.{sum_below, grown_is}
use Rattle.directions.proofs.OwdDirection.grown.Goals as goal

pub sum_with-sum-requires : goal.sum_with-sum-requires
sum_with-sum-requires c = sum_below c.args.self.sum c.requires

pub returns : goal.returns
returns c =
    let a = c.args in
    grown_is a.self a.next a.value _ _ c.span_of-ns.ensures c.sum_with-sum.ensures
