-- The error of an estimate (RFC 4656, section 4.1.2): multiplier * 2 ^ (scale - 32) seconds, exact in f64, and times 1,000 still exact. Assumes nothing.
use Rattle.std.specs.Prelude.{◌≡◌, Bool, true, false, ◌&&◌, ℕ, ◌*◌, ◌^◌, ◌<◌, ltb, leb, Float}
use Rattle.std.proofs.Common.{ap}
use Rattle.std.specs.Float.{binary64}
use Rattle.std.specs.Float.Ieee.{round}
use Rattle.floats.specs.Exact.{Exactly}
use Rattle.estimate.specs.declared.ErrorEstimate.{ErrorEstimate}
use Rattle.estimate.specs.declared.Reading.{Reading}
use Rattle.estimate.specs.declared.Reading.TheVariants.{Known, Invalid}
use Rattle.estimate.specs.Wire.{estimate_of, wire_of}
use Rattle.estimate.specs.RoundTrip.{wire_back}

-- x is multiplier * 2 ^ scale / 2 ^ 32, and nothing was rounded
abbrev pub InSeconds : ErrorEstimate → Float → Type 0
InSeconds e x = Exactly x (e.multiplier * 2 ^ e.scale) (2 ^ 32)

-- the same number times 1,000
abbrev pub Thousandfold : ErrorEstimate → Float → Type 0
Thousandfold e x = Exactly x (e.multiplier * 1000 * 2 ^ e.scale) (2 ^ 32)

-- "known with its error, or invalid with the 16 bits", by whether it is known
abbrev pub known_if : Bool → Float → ℕ → Reading
known_if true x bits = Known x
known_if false x bits = Invalid bits

-- the error of an estimate is known for a multiplier above 0 and a scale of six bits
abbrev pub error_known : ErrorEstimate → Bool
error_known e = ltb 0 e.multiplier && leb e.scale 63

-- the error in ms, rounded once
abbrev pub ms_of : ErrorEstimate → Float
ms_of e = round binary64 false (e.multiplier * 1000 * 2 ^ e.scale) (2 ^ 32)

-- "The reading of one estimate": the error in ms where it is known, else the estimate's 16 bits
abbrev pub reading_of : ErrorEstimate → Reading
reading_of e = known_if (error_known e) (ms_of e) (wire_of e)

-- of an estimate that came, these are "the 16 bits as received": every u16 survives
pub as_received : (w : ℕ) → w < 65536 → reading_of (estimate_of w) ≡ known_if (error_known (estimate_of w)) (ms_of (estimate_of w)) w
as_received w h = ap (known_if (error_known (estimate_of w)) (ms_of (estimate_of w))) (wire_back w h)

-- where it is known, nothing was rounded
abbrev pub ExactMs : ErrorEstimate → Reading → Type 0
ExactMs e (Known x) = Thousandfold e x
ExactMs e (Invalid bits) = Unit {0}

-- r is the reading of e, and nothing was rounded where its error is known
pub record InMs (e : ErrorEstimate) (r : Reading) : Type 0 where
  pub is : r ≡ reading_of e
  pub exact : ExactMs e r
