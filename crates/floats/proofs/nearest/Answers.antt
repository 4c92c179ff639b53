use Rattle.floats.proofs.Halves.{small_in}
use Rattle.std.proofs.Common.{rules}
use Rattle.floats.proofs.nearest.Goals as goal

pub int_to_float-result : goal.int_to_float-result
int_to_float-result c = small_in _ (search rules)
