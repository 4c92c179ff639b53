-- The log that a writer makes: whatever stood before, the records of the entries, then the trailer written over 24 bytes. Assumes nothing.
use Rattle.std.specs.Prelude.{List, [], ◌∷◌, ◌++◌, ℕ, length}
use Rattle.record_parts.specs.declared.Entry.{Entry}
use Rattle.record_parts.specs.Fits.{EntryFits}
use Rattle.log_record.specs.Records.{record_of}
use Rattle.log_whole.specs.declared.Settings.{Settings}
use Rattle.log_whole.specs.Logs.{trailer_over}

-- the records of the entries, one after another
abbrev pub records : List Entry → List ℕ
records [] = []
records (e ∷ es) = record_of e ++ records es

-- each entry fits its types
abbrev pub AllFit : List Entry → Type 0
AllFit [] = Unit
AllFit (e ∷ es) = EntryFits e × AllFit es

-- `room` is what the 24 bytes of the trailer held
abbrev pub log_bytes : (before : List ℕ) → List Entry → (room : List ℕ) → (copies threshold timeout : ℕ) → List ℕ
log_bytes before es room copies threshold timeout = (before ++ records es) ++ trailer_over room (length es) copies threshold timeout

-- what that log says besides its records, which start where `before` ends
abbrev pub settings_by : (before : List ℕ) → List Entry → (copies threshold timeout : ℕ) → Settings
settings_by before es copies threshold timeout = record {
  copies = copies;
  threshold = threshold;
  timeout = timeout;
  count = length es;
  start = length before;
}
