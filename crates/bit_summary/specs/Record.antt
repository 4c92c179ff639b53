-- When a sample is refused, and what a call comes to. Assumes nothing.
use Rattle.std.specs.Prelude.{◌<◌, ◌≤◌, Bool, cond, ◌&&◌, nat_lt, Result, Ok, Err}
use Rattle.limits.specs.declared.Refusal.{Refusal}
use Rattle.limits.specs.declared.Refusal.TheVariants as refusal
use Rattle.limits.specs.Limits.{count_bound}
use Rattle.request_limits.specs.Refusals.{most_bits}
use Rattle.bit_summary.specs.declared.Sample.{Sample}
use Rattle.bit_summary.specs.declared.DirectionSummary.{DirectionSummary}
use Rattle.bit_summary.specs.Summary.{recorded_of}

-- the counts and sums, and the sample's bits, are within their bounds
pub record Bounded (d : DirectionSummary) (s : Sample) : Type 0 where
  pub received : d.received < count_bound
  pub faulty : d.faulty < count_bound
  pub bits : d.bits < count_bound
  pub errors : d.errors < count_bound
  pub bursts : d.bursts < count_bound
  pub sum : d.sum < count_bound
  pub sample : s.bits ≤ most_bits

-- each count and sum is below 2^63
abbrev pub counts_fit : DirectionSummary → Bool
counts_fit d =
    nat_lt d.received count_bound
    && nat_lt d.faulty count_bound
    && nat_lt d.bits count_bound
    && nat_lt d.errors count_bound
    && nat_lt d.bursts count_bound
    && nat_lt d.sum count_bound

-- refused, before all else, for a sample of more than 524,280 bits; then for a count or sum at 2^63 or beyond; else the next summary
unfoldable pub record_to : DirectionSummary → Sample → Result DirectionSummary Refusal
record_to d s = cond (nat_lt most_bits s.bits) (Err refusal.TooMuchPadding) (cond (counts_fit d) (Ok (recorded_of d s)) (Err refusal.CountsFull))

-- the summary that stands after a call: a refusal leaves the one that was there
abbrev pub state_after : DirectionSummary → Result DirectionSummary Refusal → DirectionSummary
state_after d (Err e) = d
state_after d (Ok next) = next
