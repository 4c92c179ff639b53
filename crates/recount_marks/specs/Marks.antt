-- The mark of a record, from the events of the records before it (document 01's refusals 1, 2 and 6, and the class of a reply).
-- All that was accepted or remembered before counts: a log has too few records for any to be evicted.
-- Assumes nothing.
use Rattle.std.specs.Prelude.{◌≡◌, Bool, List, ℕ, zero, suc, ◌<◌, eqb, get_or, set, Option, Some, None}
use Rattle.call_types.specs.declared.Call.{Call}
use Rattle.call_types.specs.declared.Call.TheVariants.{Sent, Accept, Observe, Advance, Idle}
use Rattle.history.specs.Counting.{tally}
use Rattle.history.specs.Ledger.{Event}
use Rattle.log_whole.specs.Logs.{call_at}
use Rattle.recount_seen.specs.Seen.{events_of}
pub use Rattle.recount_call.specs.Mark.{late, probe_mark}
unfoldable pub use Rattle.recount_call.specs.Mark.{reply_mark, observe_mark}

-- a call's
abbrev pub call_mark : Bool → ℕ → List Event → Call → ℕ
call_mark watched timeout es (Sent s) = probe_mark watched timeout s
call_mark watched timeout es (Accept a) = reply_mark es a
call_mark watched timeout es (Observe o) = observe_mark es o
call_mark watched timeout es (Advance t) = 1
call_mark watched timeout es Idle = 1

-- what a record says
abbrev pub played_mark : Bool → ℕ → List Event → Option Call → ℕ
played_mark watched timeout es None = 0
played_mark watched timeout es (Some c) = call_mark watched timeout es c

-- record j's, from the marks of those before it
abbrev pub record_mark : Bool → ℕ → List ℕ → List ℕ → ℕ → ℕ
record_mark watched timeout log marks j = played_mark watched timeout (events_of log marks j) (call_at log j)

-- the marks once the first n records are marked, in order; all behind them as they were
unfoldable pub marked_to : Bool → ℕ → List ℕ → List ℕ → ℕ → List ℕ
marked_to watched timeout log marks zero = marks
marked_to watched timeout log marks (suc n) =
    set (marked_to watched timeout log marks n) n (record_mark watched timeout log (marked_to watched timeout log marks n) n)

-- how many of the first n records are turned away
unfoldable pub turned_in : List ℕ → ℕ → ℕ
turned_in marks zero = 0
turned_in marks (suc n) = tally (eqb (get_or marks n 0) 0) (turned_in marks n)

-- each of the first n records has its mark
abbrev pub Marked : Bool → ℕ → List ℕ → List ℕ → ℕ → Type 0
Marked watched timeout log marks n = (j : ℕ) → j < n → get_or marks j 0 ≡ record_mark watched timeout log marks j
