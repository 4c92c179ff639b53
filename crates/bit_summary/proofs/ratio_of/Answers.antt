use Rattle.bit_summary.proofs.Steps.{divided}
use Rattle.bit_summary.proofs.ratio_of.Goals as goal

pub returns : goal.returns
returns c =
    let a = c.args in
    divided a.part a.whole _ _ c.if-whole-eq0.false c.nearest_u64_to_f64-upper.ensures c.nearest_u64_to_f64-lower.ensures
