use Rattle.std.proofs.Common.{arith}
use Rattle.recount_back.proofs.Laws.{wraps_is}
use Rattle.recount_back.proofs.step.Goals as goal

pub returns : goal.returns
returns c = wraps_is c.args.from c.args.to c.wrapping_sub_u32.result (omega arith) (omega arith) (omega arith) c.wrapping_sub_u32.ensures.value
