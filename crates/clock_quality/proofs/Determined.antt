-- The contract of each public call determines its answer.
use mathlib.Core.Path.{sym, ◌∙◌}
use Rattle.floats.proofs.Determined.{OneAnswer}
use Rattle.clock_quality.proofs.clock_estimate.Kinds as clock-estimate
use Rattle.clock_quality.proofs.clock_estimate.Reads as clock-estimate'
use Rattle.clock_quality.proofs.ClockQuality.new.Kinds as new
use Rattle.clock_quality.proofs.ClockQuality.new.Reads as new'
use Rattle.clock_quality.proofs.ClockQuality.counts_fit.Kinds as counts_fit_lem
use Rattle.clock_quality.proofs.ClockQuality.counts_fit.Reads as counts-fit'
use Rattle.clock_quality.proofs.ClockQuality.record.Kinds as record-call
use Rattle.clock_quality.proofs.ClockQuality.record.Reads as record-call'
use Rattle.clock_quality.proofs.ClockQuality.recorded.Kinds as recorded
use Rattle.clock_quality.proofs.ClockQuality.recorded.Reads as recorded'

pub clock_estimate-unique : OneAnswer clock-estimate.ps clock-estimate.r clock-estimate'.Post
clock_estimate-unique κs a x y s t p q = p ∙ sym q

pub new-unique : OneAnswer new.ps new.r new'.Post
new-unique κs a x y s t p q = p ∙ sym q

pub counts_fit-unique : OneAnswer counts_fit_lem.ps counts_fit_lem.r counts-fit'.Post
counts_fit-unique κs a x y s t p q = p ∙ sym q

pub record-unique : OneAnswer record-call.ps record-call.r record-call'.Post
record-unique κs a x y s t p q = p ∙ sym q

pub recorded-unique : OneAnswer recorded.ps recorded.r recorded'.Post
recorded-unique κs a x y s t p q = p ∙ sym q
