-- What a host is told of a log: document 01's number, and the lent words, which only a served call changes. Assumes nothing.
use Rattle.call_types.specs.declared.Call.{Call}
use Rattle.std.specs.Prelude.{List, [], ◌∷◌, ℕ, Option, Some, None, Err, Ok, Result}
use Rattle.limits.specs.Numbers.{number_of}
use Rattle.log_record.specs.Records.{bad_record}
use Rattle.log_whole.specs.declared.Settings.{Settings}
use Rattle.log_whole.specs.declared.Fault.{Fault}
use Rattle.log_whole.specs.declared.Fault.TheVariants as fault
use Rattle.log_whole.specs.Logs.{refusal_of, log_of, call_at}
use Rattle.host_call_words.specs.Words.{call_words}

-- what a call leaves
pub record Left : Type 0 where
  pub number : ℕ
  pub words : List ℕ

-- what a call leaves, made of its number and the lent words
abbrev pub left : ℕ → List ℕ → Left
left n ws = record { number = n; words = ws }

-- "9 above 65,536 bytes, 7 bad trailer, 8 bad record"
abbrev pub number_in : Fault → ℕ
number_in f = number_of (refusal_of f)

-- ---- the check of a log

-- the trailer's record count, copies, threshold and timeout, one word each in this order
abbrev pub settings_words : Settings → List ℕ
settings_words s = s.count ∷ s.copies ∷ s.threshold ∷ s.timeout ∷ []

-- the number of what is wrong, or the settings
abbrev pub checked_by : Result Settings Fault → List ℕ → Left
checked_by (Err f) ws = left (number_in f) ws
checked_by (Ok s) ws = left 0 (settings_words s)

-- of the log's bytes, and what the four words held: only a good log, answered 0, changes them
unfoldable pub check_to : List ℕ → List ℕ → Left
check_to log ws = checked_by (log_of log) ws

-- ---- its first bad record

-- "(first, from 0)", and the record count where none is bad
abbrev pub first_by : Result Settings Fault → List ℕ → Left
first_by (Err fault.TooLong) ws = left (number_in fault.TooLong) ws
first_by (Err fault.BadTrailer) ws = left (number_in fault.BadTrailer) ws
first_by (Err (fault.BadRecord n)) ws = left 0 (n ∷ [])
first_by (Ok s) ws = left 0 (s.count ∷ [])

-- of the log's bytes, and what the one word held: 9 and 7 leave it
unfoldable pub first_bad_to : List ℕ → List ℕ → Left
first_bad_to log ws = first_by (log_of log) ws

-- ---- one record

-- why there is no call to read: what the log is, and otherwise that no good record stands there
abbrev pub no_call : Result Settings Fault → ℕ
no_call (Err f) = number_in f
no_call (Ok s) = bad_record

-- 0 and the words of the call that the record is; without one the number, and the words as they were
abbrev pub read_by : Option Call → Result Settings Fault → List ℕ → Left
read_by None l ws = left (no_call l) ws
read_by (Some c) l ws = left 0 (call_words c)

-- of the log's bytes, the record's index from 0, and what the words held
unfoldable pub read_to : List ℕ → ℕ → List ℕ → Left
read_to log at ws = read_by (call_at log at) (log_of log) ws
