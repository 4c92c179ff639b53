use Rattle.std.proofs.Common.{◌-◌, refl, inl, inr, arith, rules}
use lib.Count.{leading_le}
use Rattle.exact_rank.proofs.Shifts.{shift_short, shift_long, shift_reached}
use Rattle.exact_rank.proofs.shift_of.Goals as goal

-- Assumes nothing.
pub overflow_sub-length : goal.overflow_sub-length
overflow_sub-length c = omega (arith, leading_le 64 c.args.span)

pub returns-then-length-lt8 : goal.returns-then-length-lt8
returns-then-length-lt8 c = (omega arith, shift_short c.args.span (search rules) c.if-length-lt8.true, inl refl)

pub returns-else-length-lt8 : goal.returns-else-length-lt8
returns-else-length-lt8 c = (omega arith, shift_long c.args.span (search rules) c.if-length-lt8.false, inr (shift_reached c.args.span (search rules) c.if-length-lt8.false))
