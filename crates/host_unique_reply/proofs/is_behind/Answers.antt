use Rattle.std.proofs.Common.{arith}
use Rattle.replies.proofs.Wraps.{wraps_is}
use Rattle.host_unique_reply.proofs.Laws.{behind_as}
use Rattle.host_unique_reply.proofs.is_behind.Goals as goal

pub returns : goal.returns
returns c =
    behind_as _ _ _ _ _ c.is_set.ensures c.low.ensures
    (wraps_is c.low.result c.args.reflector c.wrapping_sub_u32.result (omega arith) (omega arith) (omega arith) c.wrapping_sub_u32.ensures.value)
