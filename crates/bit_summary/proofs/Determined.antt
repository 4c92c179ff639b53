-- The contract of each public call determines its answer. Assumes nothing.
use Rattle.std.proofs.Common.{sym, ◌∙◌}
use Rattle.floats.proofs.Determined.{OneAnswer}
use Rattle.bit_summary.proofs.DirectionSummary.new.Kinds as new
use Rattle.bit_summary.proofs.DirectionSummary.new.Reads as new'
use Rattle.bit_summary.proofs.DirectionSummary.record.Kinds as record-call
use Rattle.bit_summary.proofs.DirectionSummary.record.Reads as record-call'
use Rattle.bit_summary.proofs.DirectionSummary.ratios.Kinds as ratios
use Rattle.bit_summary.proofs.DirectionSummary.ratios.Reads as ratios'

pub new-unique : OneAnswer new.ps new.r new'.Post
new-unique κs a x y s t p q = p ∙ sym q

pub record-unique : OneAnswer record-call.ps record-call.r record-call'.Post
record-unique κs a x y s t p q = p ∙ sym q

pub ratios-unique : OneAnswer ratios.ps ratios.r ratios'.Post
ratios-unique κs a x y s t p q = p ∙ sym q
