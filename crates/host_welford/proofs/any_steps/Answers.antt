use Rattle.host_welford.proofs.Words.{any_said}
use Rattle.host_welford.proofs.any_steps.Goals as goal

pub returns : goal.returns
returns c =
    let a = c.args in
    any_said a.origin a.mean a.m2 a.count a.value _ _ _ _ _ c.float_of-at.ensures c.float_of-squares.ensures c.with-after.ensures c.bits_of-next.ensures.0 c.bits_of-sum.ensures.0
