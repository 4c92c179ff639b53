use Rattle.std.proofs.Common.{arith}
use Rattle.timestamps.proofs.Steps.{first_fits, found-fits, found-second}
use Rattle.timestamps.proofs.second_near.Goals as goal

pub overflow_sub-first : goal.overflow_sub-first
overflow_sub-first c = first_fits c.args.r c.ranges.r c.requires

pub overflow_add-result : goal.overflow_add-result
overflow_add-result c =
    found-fits c.args.r c.ranges.r c.requires c.args.x c.wrapping_sub_u32-after.result c.low_bits.result (omega arith)
    c.low_bits.ensures c.wrapping_sub_u32-after.ensures.value

pub returns : goal.returns
returns c =
    found-second c.args.r c.ranges.r c.requires c.args.x c.wrapping_sub_u32-after.result c.low_bits.result (omega arith)
    c.low_bits.ensures c.wrapping_sub_u32-after.ensures.value
