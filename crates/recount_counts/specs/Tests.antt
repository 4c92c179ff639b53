-- The tests of a record, each from the record and the events before it, and how many records pass. Assumes nothing.
use Rattle.call_types.specs.declared.PendingPacket.{PendingPacket}
use Rattle.std.specs.Prelude.{Bool, true, false, not, ◌&&◌, cond, List, ℕ, zero, suc, eqb, ltb, Option, Some, None}
use Rattle.call_types.specs.declared.Reply.{Reply}
use Rattle.history.specs.Counting.{tally}
use Rattle.history.specs.Ledger.{Event, accepted, replies, behind, highest_reflector}
use Rattle.recount_seen.specs.declared.Seen.{Seen}
use Rattle.recount_seen.specs.declared.Seen.TheVariants.{Nothing, Probe, Duplicate, Unknown, Known, First, Observed}
use Rattle.recount_seen.specs.Seen.{seen_at, events_of}
use Rattle.recount_counts.specs.declared.Test.{Test}
use Rattle.recount_counts.specs.declared.Test.TheVariants as test

-- the number of a test
abbrev pub number_of : Test → ℕ
number_of test.Sent = 0
number_of test.Duplicate = 1
number_of test.Unknown = 2
number_of test.Unique = 3
number_of test.Answered = 4
number_of test.Additional = 5
number_of test.Late = 6
number_of test.Satisfying = 7
number_of test.Independent = 8
number_of test.Reordered = 9

-- no packet is pending
abbrev pub absent : Option PendingPacket → Bool
absent None = true
absent (Some p) = false

-- of a unique reply whose probe had so many replies before
abbrev pub unique_test : ℕ → ℕ → ℕ → Reply → Bool
unique_test kind copies before a =
    cond (eqb kind 3) true
    (cond (eqb kind 4) (eqb before 0)
    (cond (eqb kind 5) (not (eqb before 0))
    (cond (eqb kind 6) (eqb before 0 && absent a.pending)
    (cond (eqb kind 7) (ltb before copies)
    (cond (eqb kind 8) (not (eqb a.key.reflector a.key.sender)) false)))))

-- the same after the events before it: 9, behind the highest reflector number
abbrev pub unique_at : ℕ → ℕ → List Event → ℕ → Reply → Bool
unique_at kind copies es before a = cond (eqb kind 9) (behind a.key.reflector (highest_reflector (accepted es))) (unique_test kind copies before a)

-- of a record
abbrev pub test_by : ℕ → ℕ → Seen → List Event → Bool
test_by kind copies Nothing es = false
test_by kind copies (Probe s) es = eqb kind 0
test_by kind copies Duplicate es = eqb kind 1
test_by kind copies Unknown es = eqb kind 2
test_by kind copies (Known a) es = unique_at kind copies es (replies a.key.sender es) a
test_by kind copies (First a) es = unique_at kind copies es 0 a
test_by kind copies (Observed o) es = false

-- how many of the first n records pass a test
unfoldable pub passing : (Seen → List Event → Bool) → List ℕ → List ℕ → ℕ → ℕ
passing test log marks zero = 0
passing test log marks (suc n) = tally (test (seen_at log marks n) (events_of log marks n)) (passing test log marks n)
