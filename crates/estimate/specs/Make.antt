-- Estimates that are made and not read from the wire. Assumes nothing.
use Rattle.std.specs.Prelude.{◌≡◌, Bool, true, false, cond, ℕ, ◌≤◌, ◌<◌, leb, Option, Some, None, Result, Ok, Err}
use Rattle.std.proofs.Common.{le-leb}
use Rattle.std.proofs.lemmas.Bool.{lt-leb}
use Rattle.limits.specs.declared.Refusal.{Refusal}
use Rattle.limits.specs.declared.Refusal.TheVariants as refusal
use Rattle.estimate.specs.declared.ClockFormat.{ClockFormat}
use Rattle.estimate.specs.declared.ClockFormat.TheVariants.{NTP, PTP}
use Rattle.estimate.specs.declared.ErrorEstimate.{ErrorEstimate}

-- Z = 1 is PTP
abbrev pub is_ptp : ClockFormat → Bool
is_ptp PTP = true
is_ptp NTP = false

-- the format that Z says: set is PTP, else NTP
abbrev pub format_of : Bool → ClockFormat
format_of true = PTP
format_of false = NTP

-- the refusal, if there is one: a scale above 63 is out of range
abbrev pub refusal_of : ℕ → Option Refusal
refusal_of scale = cond (leb scale 63) None (Some refusal.OutOfRange)

-- the answer by its refusal: the values where there is none, and otherwise the refusal alone
abbrev pub answer : Option Refusal → ErrorEstimate → Result ErrorEstimate Refusal
answer None e = Ok e
answer (Some why) e = Err why

-- the estimate of these four values, or refusal 1 for the scale
abbrev pub made_of : Bool → Bool → ℕ → ℕ → Result ErrorEstimate Refusal
made_of synchronized ptp scale multiplier = answer (refusal_of scale) (record { synchronized = synchronized; ptp = ptp; scale = scale; multiplier = multiplier })

-- not synchronized, with the smallest error that is not invalid
abbrev pub smallest : Bool → ErrorEstimate
smallest ptp = record { synchronized = false; ptp = ptp; scale = 0; multiplier = 1 }

-- no scale of six bits is refused, and each other is, with the refusal alone
pub in_range_lem : (synchronized ptp : Bool) (scale multiplier : ℕ) → scale ≤ 63 → made_of synchronized ptp scale multiplier ≡ Ok (record { synchronized = synchronized; ptp = ptp; scale = scale; multiplier = multiplier })
in_range_lem synchronized ptp scale multiplier h = simp (le-leb scale 63 h)

pub above_range : (synchronized ptp : Bool) (scale multiplier : ℕ) → 63 < scale → made_of synchronized ptp scale multiplier ≡ Err refusal.OutOfRange
above_range synchronized ptp scale multiplier h = simp (lt-leb scale 63 h)
