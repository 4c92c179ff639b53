-- What one record more changes in an answer about a run of counters. Assumes nothing.
use Rattle.std.specs.Prelude.{Bool, false, not, cond, List, ℕ, ◌+◌, max, eqb, ltb, length, Option, None, Some}
use Rattle.call_types.specs.declared.CounterPoint.{CounterPoint}
use Rattle.history.specs.Counting.{tally}
use Rattle.history.specs.DirectLoss.{sender_offset, received_offset, transmit_offset, seen, highest, sender_maximum, received_maximum, above0}
use Rattle.recount_window.specs.declared.Reach.{Reach}

-- the anchor stays; without one the record's counters become it
abbrev pub first_of : Option CounterPoint → Option CounterPoint → Option CounterPoint
first_of None point = point
first_of (Some first) point = Some first

-- the record has counters at this transmit offset from a
abbrev pub is_seen : CounterPoint → Option CounterPoint → (wanted : ℕ) → Bool
is_seen a None wanted = false
is_seen a (Some c) wanted = eqb wanted (transmit_offset a c)

-- how far the run w reaches from a
abbrev pub reach_of : CounterPoint → List CounterPoint → Reach
reach_of a w = record { points = length w; above = above0 (seen a w); highest = highest a w; sender = sender_maximum a w; received = received_maximum a w }

-- the received maximum is moved only by counters whose transmit offset is above all before it
abbrev pub received_next : (highest transmit received before : ℕ) → ℕ
received_next highest transmit received before = cond (ltb highest transmit) (max received before) before

-- with one more
abbrev pub reach_with : CounterPoint → CounterPoint → Reach → Reach
reach_with a c r = record {
  points = r.points + 1;
  above = tally (not (eqb (transmit_offset a c) 0)) r.above;
  highest = max (transmit_offset a c) r.highest;
  sender = max (sender_offset a c) r.sender;
  received = received_next r.highest (transmit_offset a c) (received_offset a c) r.received;
}

-- where the record has counters
abbrev pub reach_next : CounterPoint → Option CounterPoint → Reach → Reach
reach_next a None r = r
reach_next a (Some c) r = reach_with a c r
