use Rattle.floats.proofs.Halves.{halves, half_in}
use Rattle.std.proofs.Common.{rules}
use Rattle.floats.proofs.nearest_scaled.Goals as goal

pub int_to_float-result : goal.int_to_float-result
int_to_float-result c = half_in _ (search rules)

pub int_to_float-result-2 : goal.int_to_float-result-2
int_to_float-result-2 c = half_in _ (search rules)

pub returns : goal.returns
returns c = let b = c.before.before.before.before in halves b.args.digits b.args.exponent _ _ (search rules) (search rules) c.power_of_two-upper.ensures.exact c.power_of_two-lower.ensures.exact
