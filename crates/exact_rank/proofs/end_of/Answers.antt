use Rattle.std.proofs.Common.{◌-◌, arith, pow_pos}
use Rattle.exact_rank.proofs.Shifts.{one_shifted}
use Rattle.exact_rank.proofs.end_of.Goals as goal

pub overflow_sub-last : goal.overflow_sub-last
overflow_sub-last c = omega (arith, one_shifted c.args.shift c.requires.0, pow_pos c.args.shift)

pub returns-else-high-start : goal.returns-else-high-start
returns-else-high-start c = omega (arith, one_shifted c.args.shift c.requires.0, pow_pos c.args.shift)
