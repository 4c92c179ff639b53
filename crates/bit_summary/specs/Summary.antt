-- What a sample leaves of a summary (`DirectionSummary::record` of src/ber.rs). Assumes nothing.
use Rattle.std.specs.Prelude.{ℕ, zero, suc, ◌+◌, max, Option, Some, None}
use Rattle.bit_summary.specs.declared.Sample.{Sample}
use Rattle.bit_summary.specs.declared.DirectionSummary.{DirectionSummary}

-- a packet with errors counts as one
abbrev pub wrong_packet : ℕ → ℕ
wrong_packet zero = 0
wrong_packet (suc n) = 1

-- the greater of a burst, if there is one, and one more
abbrev pub greater_burst : Option ℕ → ℕ → Option ℕ
greater_burst None n = Some n
greater_burst (Some m) n = Some (max m n)

-- no packet yet
abbrev pub fresh : DirectionSummary
fresh = record {
  received = 0;
  faulty = 0;
  bits = 0;
  errors = 0;
  bursts = 0;
  sum = 0;
  longest = None;
}

-- a sample's burst, where it is known, is one more
abbrev pub one_burst : Option ℕ → ℕ
one_burst None = 0
one_burst (Some n) = 1

-- it adds so many bits
abbrev pub burst_bits : Option ℕ → ℕ
burst_bits None = 0
burst_bits (Some n) = n

-- and it may be the greatest
abbrev pub with_burst : Option ℕ → Option ℕ → Option ℕ
with_burst most None = most
with_burst most (Some n) = greater_burst most n

-- what `record` leaves
abbrev pub recorded_of : DirectionSummary → Sample → DirectionSummary
recorded_of d s = record {
  received = d.received + 1;
  faulty = d.faulty + wrong_packet s.errors;
  bits = d.bits + s.bits;
  errors = d.errors + s.errors;
  bursts = d.bursts + one_burst s.burst;
  sum = d.sum + burst_bits s.burst;
  longest = with_burst d.longest s.burst;
}
