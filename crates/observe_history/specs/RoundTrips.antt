-- What it means that the delays of the state, those of the round trips and those of the follow-ups, follow from the plain list of served calls.
-- Assumes nothing.
use Rattle.std.specs.Float.Ieee.{Float}
use Rattle.delays.specs.declared.Nanoseconds.{Nanoseconds}
use Rattle.std.specs.Prelude.{◌≡◌, List, ℕ, ℤ, Some, None, Option}
use Rattle.call_types.specs.declared.Call.{Call}
use Rattle.delays.specs.declared.Delays.{Delays}
use Rattle.delays.specs.declared.DelaySummary.{DelaySummary}
use Rattle.delays.specs.Sums.{nanoseconds_of, sum_of}
use Rattle.delays.specs.Summary.{in_ms, average_ms}
use Rattle.history.specs.Figures.{Figures, round_trip_figures}
use Rattle.ledger_steps.specs.Rooms.{LedgerStand}

-- ---- the state of these figures: sign and words of each integer

-- the least or the greatest
abbrev pub extreme_of : Option ℤ → Option Nanoseconds
extreme_of None = None
extreme_of (Some z) = Some (nanoseconds_of z)

-- the whole
abbrev pub delays_from : Figures → Delays
delays_from f = record { count = f.samples; sum = sum_of f.sum; min = extreme_of f.minimum; max = extreme_of f.maximum }

-- ---- what is shown of these figures

-- the minimum or the maximum, in ms
abbrev pub shown_ms : Option ℤ → Option Float
shown_ms None = None
shown_ms (Some z) = Some (in_ms z)

-- with the average
abbrev pub shown_from : Figures → DelaySummary
shown_from f = record { samples = f.samples; min = shown_ms f.minimum; average = average_ms f.sum f.samples; max = shown_ms f.maximum }

-- THE ROUND TRIPS of the state are those of the observes served
abbrev pub RoundTripsFollow : ℕ → List Call → Delays → Type 0
RoundTripsFollow N h d = d ≡ delays_from (round_trip_figures N h)

-- of a ledger with its rooms
abbrev pub RoundTripsFollowAt : ℕ → List Call → LedgerStand → Type 0
RoundTripsFollowAt N h s = RoundTripsFollow N h s.ledger.counts.rtt
