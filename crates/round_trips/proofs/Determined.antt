-- The contract of the public call determines its answer.
use mathlib.Core.Path.{sym, ◌∙◌}
use Rattle.floats.proofs.Determined.{OneAnswer}
use Rattle.round_trips.proofs.recorded.Kinds as recorded
use Rattle.round_trips.proofs.recorded.Reads as recorded'

pub recorded-unique : OneAnswer recorded.ps recorded.r recorded'.Post
recorded-unique κs a x y s t p q = p ∙ sym q
