-- What each answer to a log means, beside the definition that the calls cite: proofs/Accepted.antt shows that it holds of every log.
-- Assumes nothing.
use Rattle.std.specs.Prelude.{◌≡◌, true, false, List, ℕ, ◌≤◌, ◌<◌, length, Err, Ok, Result}
use Rattle.log_record.specs.Records.{good}
use Rattle.log_whole.specs.declared.Fault.{Fault}
use Rattle.log_whole.specs.declared.Settings.{Settings}
use Rattle.log_whole.specs.declared.Fault.TheVariants as fault
use Rattle.log_whole.specs.Logs.{count_of, settings_of, trailer_good, record_at}

-- what holds where an answer is given: 9 above 65,536 bytes; 7 for a bad trailer; 8 for the first bad record; else every record is good
abbrev pub Means : List ℕ → Result Settings Fault → Type 0
Means bs (Err fault.TooLong) = 65536 < length bs
Means bs (Err fault.BadTrailer) = (length bs ≤ 65536) × (trailer_good bs ≡ false)
Means bs (Err (fault.BadRecord n)) =
    (length bs ≤ 65536) × (trailer_good bs ≡ true) × (n < count_of bs) × (good (record_at bs (settings_of bs).start n) ≡ false)
    × ((j : ℕ) → j < n → good (record_at bs (settings_of bs).start j) ≡ true)
Means bs (Ok s) =
    (length bs ≤ 65536) × (trailer_good bs ≡ true) × (s ≡ settings_of bs) × ((j : ℕ) → j < s.count → good (record_at bs s.start j) ≡ true)
