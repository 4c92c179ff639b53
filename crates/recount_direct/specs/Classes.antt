-- The class of a record's counters as a number, and the tests of it. Assumes nothing.
use Rattle.call_types.specs.declared.ReplyObservation.{ReplyObservation}
use Rattle.std.specs.Prelude.{Bool, false, ◌&&◌, cond, List, ℕ, eqb, ltb, length, Some, None, Option}
use Rattle.limits.specs.Limits.{capacity}
use Rattle.call_types.specs.declared.CounterPoint.{CounterPoint}
use Rattle.history.specs.Counting.{has}
use Rattle.history.specs.Given.{ordinal_of, counters_of}
use Rattle.history.specs.Ledger.{Event}
use Rattle.history.specs.DirectLoss.{DirectClass, mismatch, zeros, anchors, jump, again, exceeded, reordered, advanced, jumps, within, transmit_offset, seen, highest, direct_class, is_observation, is_unavailable, is_discontinuity, is_below, direct_at}
use Rattle.recount_seen.specs.declared.Seen.{Seen}
use Rattle.recount_observed.specs.Observed.{observation_of}

-- a number for each class
abbrev pub direct_number : DirectClass → ℕ
direct_number mismatch = 0
direct_number zeros = 1
direct_number anchors = 2
direct_number jump = 3
direct_number again = 4
direct_number exceeded = 5
direct_number reordered = 6
direct_number advanced = 7

-- in an empty window
abbrev pub without_anchor : CounterPoint → ℕ
without_anchor c = cond (eqb c.received.0 0 && eqb c.transmitted.0 0) 1 2

-- in the window w with its anchor a
unfoldable pub from_anchor : CounterPoint → CounterPoint → List CounterPoint → ℕ
from_anchor a c w =
    direct_number (within (jumps a c) (has (seen a w) (transmit_offset a c)) (eqb (length w) capacity) (ltb (transmit_offset a c) (highest a w)))

-- in any window; 8 where there are no counters
abbrev pub counters_class : Option ℕ → Option CounterPoint → List CounterPoint → ℕ
counters_class n None w = 8
counters_class n (Some c) w = direct_number (direct_class capacity n c w)

-- of a record
abbrev pub class_in : Option ReplyObservation → List CounterPoint → ℕ
class_in None w = 8
class_in (Some o) w = counters_class (ordinal_of o.ordinal) (counters_of o.counters) w

-- what is counted of a class of crate history: 0 an observation, 1 unavailable, 2 a discontinuity, 3 reordered
abbrev pub class_test : (kind : ℕ) → DirectClass → Bool
class_test kind x =
    cond (eqb kind 0) (is_observation x) (cond (eqb kind 1) (is_unavailable x) (cond (eqb kind 2) (is_discontinuity x) (cond (eqb kind 3) (is_below x) false)))

-- of an observation, after the events es
abbrev pub direct_in : (kind : ℕ) → Option ReplyObservation → List Event → Bool
direct_in kind None es = false
direct_in kind (Some o) es = direct_at capacity (class_test kind) (ordinal_of o.ordinal) (counters_of o.counters) es

-- of a record
abbrev pub direct_by : (kind : ℕ) → Seen → List Event → Bool
direct_by kind s es = direct_in kind (observation_of s) es
