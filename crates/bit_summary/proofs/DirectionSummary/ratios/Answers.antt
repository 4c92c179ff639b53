use Rattle.bit_summary.proofs.Steps.{shown}
use Rattle.bit_summary.proofs.DirectionSummary.ratios.Goals as goal

pub returns : goal.returns
returns c =
    shown c.args.self _ _ _ _ c.ratio_of-bits.ensures c.per_million-bits_per_million.ensures _ c.ratio_of-packets.ensures c.per_million-packets_per_million.ensures c.ratio_of-bursts.ensures
