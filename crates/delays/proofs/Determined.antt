-- The contract of each public call determines its answer.
use mathlib.Core.Path.{sym, ◌∙◌}
use Rattle.floats.proofs.Determined.{OneAnswer}
use Rattle.delays.proofs.from_u64.Kinds as from-u64
use Rattle.delays.proofs.from_u64.Reads as from-u64'
use Rattle.delays.proofs.from_i64.Kinds as from-i64
use Rattle.delays.proofs.from_i64.Reads as from-i64'
use Rattle.delays.proofs.Delays.new.Kinds as new
use Rattle.delays.proofs.Delays.new.Reads as new'
use Rattle.delays.proofs.Delays.counts_fit.Kinds as counts_fit_lem
use Rattle.delays.proofs.Delays.counts_fit.Reads as counts-fit'
use Rattle.delays.proofs.Delays.record.Kinds as record-call
use Rattle.delays.proofs.Delays.record.Reads as record-call'
use Rattle.delays.proofs.Delays.recorded.Kinds as recorded
use Rattle.delays.proofs.Delays.recorded.Reads as recorded'
use Rattle.delays.proofs.Delays.summary.Kinds as summary
use Rattle.delays.proofs.Delays.summary.Reads as summary'

pub from_u64-unique : OneAnswer from-u64.ps from-u64.r from-u64'.Post
from_u64-unique κs a x y s t p q = p ∙ sym q

pub from_i64-unique : OneAnswer from-i64.ps from-i64.r from-i64'.Post
from_i64-unique κs a x y s t p q = p ∙ sym q

pub new-unique : OneAnswer new.ps new.r new'.Post
new-unique κs a x y s t p q = p ∙ sym q

pub counts_fit-unique : OneAnswer counts_fit_lem.ps counts_fit_lem.r counts-fit'.Post
counts_fit-unique κs a x y s t p q = p ∙ sym q

pub record-unique : OneAnswer record-call.ps record-call.r record-call'.Post
record-unique κs a x y s t p q = p ∙ sym q

pub recorded-unique : OneAnswer recorded.ps recorded.r recorded'.Post
recorded-unique κs a x y s t p q = p ∙ sym q

pub summary-unique : OneAnswer summary.ps summary.r summary'.Post
summary-unique κs a x y s t p q = p ∙ sym q
