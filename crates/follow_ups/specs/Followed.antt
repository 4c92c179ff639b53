-- What a follow-up of a class leaves (document 01, 'Ledger', and `observe` of the Rust): one observation more, one of its class, and of a
-- matched one the delay and the clock quality.
use Rattle.estimate.specs.declared.ErrorEstimate.{ErrorEstimate}
use Rattle.std.specs.Prelude.{ℕ, ◌+◌, ℤ, Option, Some, None, Ok, Err}
use Rattle.estimate.specs.Wire.{estimate_of, wire_of}
use Rattle.delays.specs.declared.Delays.{Delays}
use Rattle.delays.specs.Sums.{nanoseconds_of}
use Rattle.delays.specs.Delays as delays
use Rattle.clock_quality.specs.declared.ClockQuality.{ClockQuality}
use Rattle.clock_quality.specs.Quality as quality
use Rattle.correlation.specs.declared.follow.Miss.TheVariants as miss
use Rattle.correlation.specs.Class.{Class, delay_of}
use Rattle.follow_ups.specs.declared.FollowCounts.{FollowCounts}
use Rattle.follow_ups.specs.declared.FollowUps.{FollowUps}

-- the sender's and the reflector's estimate that the wires of a slot's record say
abbrev pub estimates_of : Option (ℕ × ℕ) → Option (ErrorEstimate × ErrorEstimate)
estimates_of None = None
estimates_of (Some (s, r)) = Some (estimate_of s, estimate_of r)

-- and back: the sender's and the reflector's 16 bits, as a slot's record keeps an observation's estimates
abbrev pub wires_of : Option (ErrorEstimate × ErrorEstimate) → Option (ℕ × ℕ)
wires_of None = None
wires_of (Some (s, r)) = Some (wire_of s, wire_of r)

-- observations, matched, repeated, unmatched, ambiguous, unavailable
abbrev pub counts : ℕ → ℕ → ℕ → ℕ → ℕ → ℕ → FollowCounts
counts o m r u a n = record { observations = o; matched = m; repeated = r; unmatched = u; ambiguous = a; unavailable = n }

-- one observation more, and one more of its class; the other classes stay
abbrev pub counted : Class → FollowCounts → FollowCounts
counted (Err miss.Unavailable) n = counts (n.observations + 1) n.matched n.repeated n.unmatched n.ambiguous (n.unavailable + 1)
counted (Err miss.Ambiguous) n = counts (n.observations + 1) n.matched n.repeated n.unmatched (n.ambiguous + 1) n.unavailable
counted (Err miss.Unmatched) n = counts (n.observations + 1) n.matched n.repeated (n.unmatched + 1) n.ambiguous n.unavailable
counted (Err miss.Repeated) n = counts (n.observations + 1) n.matched (n.repeated + 1) n.unmatched n.ambiguous n.unavailable
counted (Ok m) n = counts (n.observations + 1) (n.matched + 1) n.repeated n.unmatched n.ambiguous n.unavailable

-- a matched one alone is a sample: T4 - (T3 - offset·10^9) in ns, of the converted T3 and an offset in s
abbrev pub delay_after : Class → ℤ → Delays → Delays
delay_after (Err why) offset d = d
delay_after (Ok m) offset d = delays.recorded_of d (nanoseconds_of (delay_of m.t4 m.t3 offset))

-- a matched one alone is a sample: the estimates of the reply that it corrects, or none
abbrev pub quality_after : Class → ClockQuality → ClockQuality
quality_after (Err why) q = q
quality_after (Ok m) q = quality.recorded_of q (estimates_of m.quality)

-- all three after one follow-up of a class, with the offset of the observation that carries it
unfoldable pub followed : FollowUps → Class → ℤ → FollowUps
followed f c offset = record {
  counts = counted c f.counts;
  delay = delay_after c offset f.delay;
  quality = quality_after c f.quality;
}

-- before any follow-up: counts 0, no delay and no sample of the clock quality
abbrev pub fresh_follow_ups : FollowUps
fresh_follow_ups = record { counts = counts 0 0 0 0 0 0; delay = delays.fresh; quality = quality.fresh }
