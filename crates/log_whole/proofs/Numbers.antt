-- The number that a host is told of a log is document 01's. Assumes nothing.
use Rattle.std.specs.Prelude.{Result, Ok, Err}
use mathlib.Core.Path.{◌≡◌, refl}
use mathlib.Core.Bool.{Bool, true, false, cond}
use mathlib.Core.List.{List}
use Prim.Native.Nat.{ℕ}
use lib.Dec.{eqb, ltb}
use lib.ListN.{length}
use Rattle.limits.specs.Numbers.{number_of}
use Rattle.log_record.specs.Records.{bad_record}
use Rattle.log_whole.specs.declared.Settings.{Settings}
use Rattle.log_whole.specs.declared.Fault.{Fault}
use Rattle.log_whole.specs.declared.Fault.TheVariants as fault
use Rattle.log_whole.specs.Logs.{most_bytes, settings_of, trailer_good, refusal_of, too_long, bad_trailer, answer, records_number, number_by, first_of, log_of}

-- ---- of each fault

-- Of a log above 65,536 bytes the host is told 9.
pub told_too_long : number_of (refusal_of fault.TooLong) ≡ too_long
told_too_long = refl

-- Of one with a bad trailer it is told 7.
pub told_bad_trailer : number_of (refusal_of fault.BadTrailer) ≡ bad_trailer
told_bad_trailer = refl

-- Of one with a bad record it is told 8, whichever record is the first bad one.
pub told_bad_record : (first : ℕ) → number_of (refusal_of (fault.BadRecord first)) ≡ bad_record
told_bad_record first = refl

-- ---- of any bytes

-- the number that the host is told of an answer: 0 where the log is accepted
abbrev pub number_told : Result Settings Fault → ℕ
number_told (Ok s) = 0
number_told (Err f) = number_of (refusal_of f)

-- Of any bytes the host is told the number by which they are answered: 9, 7 or 8, tested in that order, or 0.
pub told_of_log : (bs : List ℕ)
    → number_told (log_of bs) ≡ number_by (ltb most_bytes (length bs)) (trailer_good bs) (records_number (first_of bs) (settings_of bs).count)
unfolding log_of
told_of_log bs = by (ltb most_bytes (length bs)) (trailer_good bs) (eqb (first_of bs) (settings_of bs).count) (first_of bs) (settings_of bs)
  where
    by : (long kept whole : Bool) (first : ℕ) (s : Settings)
        → number_told (answer (number_by long kept (cond whole 0 bad_record)) first s) ≡ number_by long kept (cond whole 0 bad_record)
    by true kept whole first s = refl
    by false false whole first s = refl
    by false true true first s = refl
    by false true false first s = refl
