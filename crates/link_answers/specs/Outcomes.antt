-- "For each answer that is an enum, a definition gives this paper's number and values for each of the enum's cases" (document 01): of the ledger, of the ledger
-- with a monitor, of the monitor, and of a log's record. A refusal is its number only, and the state as it was. Assumes nothing.
use Rattle.std.specs.Prelude.{Bool, cond, List, [], ◌∷◌, ℕ, zero, suc, ltb, length, Option, Some, None, Result, Ok, Err}
use Rattle.call_types.specs.declared.Call.{Call}
use Rattle.ledger_state.specs.declared.Ledger.{Ledger}
use Rattle.ledger_steps.specs.declared.Accepted.{Accepted}
use Rattle.monitor.specs.declared.Monitor.{Monitor}
use Rattle.host_calls.specs.Calls.{accepted_words}
use Rattle.host_numbers.specs.Numbers.{flag_word}
use Rattle.record_parts.specs.declared.Entry.{Entry}
use Rattle.record_parts.specs.Parts.{call_of}
use Rattle.log_record.specs.Records.{bad_record, read_number}
use Rattle.log_whole.specs.Logs.{most_bytes, too_long, bad_trailer, trailer_good, count_of, settings_of, record_at}

-- the number, 0 where the call was served; the values that are answered; the state then
pub record Outcome (State : Type 0) : Type 0 where
  pub number : ℕ
  pub values : List ℕ
  pub state : State

-- the record above, made of its parts in their order
abbrev pub outcome : {State : Type 0} → ℕ → List ℕ → State → Outcome State
outcome n values state = record { number = n; values = values; state = state }

-- by the table's number: at 0 the values and the next state, else the number only and the state as it was
abbrev pub by_number : {State : Type 0} → ℕ → List ℕ → State → State → Outcome State
by_number zero values next before = outcome 0 values next
by_number (suc n) values next before = outcome (suc n) [] before

-- `sent` and `observe`: no values
abbrev pub ledger_outcome : Ledger → Result Ledger ℕ → Outcome Ledger
ledger_outcome before (Ok next) = outcome 0 [] next
ledger_outcome before (Err n) = outcome n [] before

-- `accept`: the class (0 unknown, 1 duplicate, 2 unique), then the packet's time and tag, whether there is an ordinal, the ordinal, the train
abbrev pub accept_outcome : Ledger → Result (Ledger × Accepted) ℕ → Outcome Ledger
accept_outcome before (Ok (next, a)) = outcome 0 (accepted_words a) next
accept_outcome before (Err n) = outcome n [] before

-- `answered`: 1 where the held probe has a reply, else 0
abbrev pub answered_outcome : Ledger → Result Bool ℕ → Outcome Ledger
answered_outcome before (Ok b) = outcome 0 (flag_word b ∷ []) before
answered_outcome before (Err n) = outcome n [] before

-- `sent` with a monitor: both states
abbrev pub watched_outcome : Ledger → Monitor → Result (Ledger × Monitor) ℕ → Outcome (Ledger × Monitor)
watched_outcome before watch (Ok (next, m)) = outcome 0 [] (next, m)
watched_outcome before watch (Err n) = outcome n [] (before, watch)

-- `accept` with a monitor: the same values as without
abbrev pub watched_accept_outcome : Ledger → Monitor → Result (Ledger × Monitor × Accepted) ℕ → Outcome (Ledger × Monitor)
watched_accept_outcome before watch (Ok (next, m, a)) = outcome 0 (accepted_words a) (next, m)
watched_accept_outcome before watch (Err n) = outcome n [] (before, watch)

-- the monitor's `sent`, `reply`, `advance` and `idle`: no values
abbrev pub monitor_outcome : Monitor → Result Monitor ℕ → Outcome Monitor
monitor_outcome before (Ok next) = outcome 0 [] next
monitor_outcome before (Err n) = outcome n [] before

-- `deadline`: the front probe's, or no value
abbrev pub deadline_outcome : Monitor → Result (Option ℕ) ℕ → Outcome Monitor
deadline_outcome before (Ok None) = outcome 0 [] before
deadline_outcome before (Ok (Some time)) = outcome 0 (time ∷ []) before
deadline_outcome before (Err n) = outcome n [] before

-- a log's record: the call that is played, or none
abbrev pub played_calls : Option Call → List Call
played_calls None = []
played_calls (Some c) = c ∷ []

-- its number: 9 above 65,536 bytes, 7 with a bad trailer, 8 where the log has no such record or it is bad, which all play nothing
abbrev pub played_number : List ℕ → ℕ → ℕ
played_number log i =
    cond (ltb most_bytes (length log)) too_long
    (cond (trailer_good log) (cond (ltb i (count_of log)) (read_number (record_at log (settings_of log).start i)) bad_record) bad_trailer)

-- by that number: at 0 the call that the record makes
abbrev pub calls_by : ℕ → Entry → List Call
calls_by zero e = call_of e ∷ []
calls_by (suc n) e = []
