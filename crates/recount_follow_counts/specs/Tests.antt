-- The tests of a record's follow-up, from the record and the events before it. Assumes nothing.
use Rattle.call_types.specs.declared.ReplyObservation.{ReplyObservation}
use Rattle.std.specs.Prelude.{Bool, true, false, cond, List, ℕ, eqb, ℤ, Option, Some, None}
use Rattle.call_types.specs.declared.FollowUpTelemetry.{FollowUpTelemetry}
use Rattle.history.specs.Ledger.{Event}
use Rattle.recount_seen.specs.declared.Seen.{Seen}
use Rattle.recount_observed.specs.Observed.{observation_of}
use Rattle.recount_follow.specs.Slots.{slot_in}
use Rattle.recount_follow.specs.declared.Class.{Class}
use Rattle.recount_follow.specs.Brief.{number_of, brief_of, class_of}

-- what is counted as a number: a class's, and 5 for any
abbrev pub kind_of : Option Class → ℕ
kind_of None = 5
kind_of (Some class) = number_of class

-- a follow-up of this class; of any for 5
abbrev pub telemetry_test : (kind copies : ℕ) → FollowUpTelemetry → (own : ℕ) → (offset : ℤ) → List Event → Bool
telemetry_test kind copies f own offset es = cond (eqb kind 5) true (eqb kind (class_of f own offset (brief_of (slot_in copies es f.sequence))))

-- where there is one
abbrev pub follow_test : (kind copies : ℕ) → Option FollowUpTelemetry → (own : ℕ) → (offset : ℤ) → List Event → Bool
follow_test kind copies None own offset es = false
follow_test kind copies (Some f) own offset es = telemetry_test kind copies f own offset es

-- of an observation
abbrev pub follow_in : (kind copies : ℕ) → Option ReplyObservation → List Event → Bool
follow_in kind copies None es = false
follow_in kind copies (Some o) es = follow_test kind copies o.follow o.key.reflector o.offset es

-- of a record
abbrev pub follow_by : (kind copies : ℕ) → Seen → List Event → Bool
follow_by kind copies s es = follow_in kind copies (observation_of s) es
