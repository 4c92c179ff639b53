-- A log that was cut short on the way (document 02, Q-11): "It keeps records from byte 0 up to the first that is bad or incomplete, and writes them
-- with a new trailer. It says how many records were kept, at which byte it stopped and how many bytes were dropped. A bad record here is exactly one
-- that document 01 answers with 8." What a log is, and a bad record, are those of log_whole. Assumes nothing.
use Rattle.std.specs.Prelude.{Bool, false, cond, List, ◌++◌, ℕ, ◌-◌, ◌*◌, ◌/◌, eqb, length, take, replicate, Err, Ok, Result}
use Rattle.log_whole.specs.declared.Settings.{Settings}
use Rattle.log_whole.specs.declared.Fault.{Fault}
use Rattle.log_whole.specs.declared.Fault.TheVariants as fault
use Rattle.log_whole.specs.Logs.{settings_of, first_bad, log_of, trailer_over}

-- ---- what is kept

-- "records from byte 0 up to the first that is bad or incomplete": the first bad one of as many as there are whole ones
unfoldable pub kept_of : List ℕ → ℕ
kept_of bs = first_bad bs 0 0 (length bs / 96)

-- "at which byte it stopped": behind the last one that was kept
abbrev pub stop_of : List ℕ → ℕ
stop_of bs = 96 * kept_of bs

-- of the reader's answer: accepted, and the first record stands at byte 0
abbrev pub whole_by : Result Settings Fault → Bool
whole_by (Ok s) = eqb s.start 0
whole_by (Err fault.TooLong) = false
whole_by (Err fault.BadTrailer) = false
whole_by (Err (fault.BadRecord n)) = false

-- "A log that `linkreport` accepts, with no leading matter"
unfoldable pub whole : List ℕ → Bool
whole bs = whole_by (log_of bs)

-- "how many bytes were dropped": those from the stop on, and of a whole log none
unfoldable pub dropped_of : List ℕ → ℕ
dropped_of bs = cond (whole bs) 0 (length bs - stop_of bs)

-- ---- what is written

-- the trailer of a log of `count` records
unfoldable pub trailer_of : (count copies threshold timeout : ℕ) → List ℕ
trailer_of count copies threshold timeout = trailer_over (replicate 24 0) count copies threshold timeout

-- "writes them with a new trailer"; a whole log "is given back as it is, its own trailer settings too"
unfoldable pub output_of : List ℕ → (copies threshold timeout : ℕ) → List ℕ
output_of bs copies threshold timeout = cond (whole bs) bs (take (stop_of bs) bs ++ trailer_of (kept_of bs) copies threshold timeout)

-- what the log that is written says besides its records: the operator's settings, and of a whole log its own
unfoldable pub settings_for : List ℕ → (copies threshold timeout : ℕ) → Settings
settings_for bs copies threshold timeout =
    cond (whole bs) (settings_of bs) (record { copies = copies; threshold = threshold; timeout = timeout; count = kept_of bs; start = 0 })
