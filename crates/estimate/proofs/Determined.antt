-- The contract of each public call determines its answer.
use mathlib.Core.Path.{sym, ◌∙◌}
use Rattle.floats.specs.Exact.{exactly_one}
use Rattle.floats.proofs.Determined.{OneAnswer}
use Rattle.estimate.proofs.ErrorEstimate.new.Kinds as new
use Rattle.estimate.proofs.ErrorEstimate.new.Reads as new'
use Rattle.estimate.proofs.ErrorEstimate.with_clock_format.Kinds as with-clock-format
use Rattle.estimate.proofs.ErrorEstimate.with_clock_format.Reads as with-clock-format'
use Rattle.estimate.proofs.ErrorEstimate.unsynchronized.Kinds as unsynchronized
use Rattle.estimate.proofs.ErrorEstimate.unsynchronized.Reads as unsynchronized'
use Rattle.estimate.proofs.ErrorEstimate.unsynchronized_with_format.Kinds as unsynchronized-with-format
use Rattle.estimate.proofs.ErrorEstimate.unsynchronized_with_format.Reads as unsynchronized-with-format'
use Rattle.estimate.proofs.ErrorEstimate.clock_format.Kinds as clock-format
use Rattle.estimate.proofs.ErrorEstimate.clock_format.Reads as clock-format'
use Rattle.estimate.proofs.ErrorEstimate.from_wire.Kinds as from-wire
use Rattle.estimate.proofs.ErrorEstimate.from_wire.Reads as from-wire'
use Rattle.estimate.proofs.ErrorEstimate.to_wire.Kinds as to-wire
use Rattle.estimate.proofs.ErrorEstimate.to_wire.Reads as to-wire'
use Rattle.estimate.proofs.ErrorEstimate.error_seconds.Kinds as error-seconds
use Rattle.estimate.proofs.ErrorEstimate.error_seconds.Reads as error-seconds'
use Rattle.estimate.proofs.ErrorEstimate.reading.Kinds as reading
use Rattle.estimate.proofs.ErrorEstimate.reading.Reads as reading'

pub new-unique : OneAnswer new.ps new.r new'.Post
new-unique κs a x y s t p q = p ∙ sym q

pub with_clock_format-unique : OneAnswer with-clock-format.ps with-clock-format.r with-clock-format'.Post
with_clock_format-unique κs a x y s t p q = p ∙ sym q

pub unsynchronized-unique : OneAnswer unsynchronized.ps unsynchronized.r unsynchronized'.Post
unsynchronized-unique κs a x y s t p q = p ∙ sym q

pub unsynchronized_with_format-unique : OneAnswer unsynchronized-with-format.ps unsynchronized-with-format.r unsynchronized-with-format'.Post
unsynchronized_with_format-unique κs a x y s t p q = p ∙ sym q

pub clock_format-unique : OneAnswer clock-format.ps clock-format.r clock-format'.Post
clock_format-unique κs a x y s t p q = p ∙ sym q

pub from_wire-unique : OneAnswer from-wire.ps from-wire.r from-wire'.Post
from_wire-unique κs a x y s t p q = p ∙ sym q

pub to_wire-unique : OneAnswer to-wire.ps to-wire.r to-wire'.Post
to_wire-unique κs a x y s t p q = p ∙ sym q

pub error_seconds-unique : OneAnswer error-seconds.ps error-seconds.r error-seconds'.Post
error_seconds-unique κs a x y s t p q = exactly_one x y _ _ p q

pub reading-unique : OneAnswer reading.ps reading.r reading'.Post
reading-unique κs a x y s t p q = p.is ∙ sym q.is
