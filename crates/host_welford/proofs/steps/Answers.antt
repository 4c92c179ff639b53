use Rattle.host_welford.proofs.Words.{small_enough}
use Rattle.host_welford.proofs.steps.Goals as goal

pub small_steps-requires : goal.small_steps-requires
small_steps-requires c =
    let a = c.args in
    small_enough a.mean a.m2 _ _ a.value a.origin a.count c.is_number.ensures c.is_number-2.ensures c.if-is_number-value.true
