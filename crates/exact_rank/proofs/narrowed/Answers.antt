use Rattle.std.proofs.Common.{◌-◌, arith}
use Rattle.exact_rank.proofs.narrowed.Goals as goal

-- Assumes nothing.
pub overflow_sub-held : goal.overflow_sub-held
overflow_sub-held c =
    let p = c.requires in
    omega (arith, p.1.first.before_is p.2, p.1.first.through_is p.2, p.1.first.few_below, p.1.first.enough_through)

pub overflow_sub-node : goal.overflow_sub-node
overflow_sub-node c =
    let p = c.requires in
    omega (arith, p.1.first.before_is p.2, p.1.first.few_below)
