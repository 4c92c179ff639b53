use Rattle.spread.proofs.Steps.{welford_is}
use Rattle.spread.proofs.Welford.with.Goals as goal

pub returns : goal.returns
returns c =
    let a = c.args in
    welford_is a.self a.origin a.count a.value _ _ c.centered-centered.ensures c.nearest_u64_to_f64-samples.ensures
