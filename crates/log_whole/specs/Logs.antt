-- A log (document 01, 'Log and program'): "96-byte records, ..; then a 24-byte trailer: distance from the end to the first record (u32), record
-- count (u32), copies (u16), threshold (u16; 0 means no monitor), timeout (u64), bytes `STLG`. Anything may stand before the first record."
-- Assumes nothing.
use Rattle.call_types.specs.declared.Call.{Call}
use Rattle.std.specs.Prelude.{Bool, false, ◌&&◌, cond, List, [], ◌∷◌, ℕ, zero, suc, ◌+◌, ◌-◌, ◌*◌, eqb, leb, ltb, length, take, drop, Option, Some, None, Err, Ok, Result}
use Rattle.limits.specs.declared.Refusal.{Refusal}
use Rattle.limits.specs.declared.Refusal.TheVariants as refusal
use Rattle.big_endian.specs.Numbers.{number_at}
use Rattle.big_endian.specs.Fields.{Field, bytes2, bytes4, bytes8, written}
use Rattle.record_parts.specs.Parts.{call_of}
use Rattle.record_parts.specs.declared.Entry.{Entry}
use Rattle.log_record.specs.Records.{Wrote, wrote, bad_record, good, read_of}
use Rattle.log_whole.specs.declared.Settings.{Settings}
use Rattle.log_whole.specs.declared.Fault.{Fault}
use Rattle.log_whole.specs.declared.Fault.TheVariants as fault

-- ---- the trailer

-- "9 above 65,536 bytes"
abbrev pub most_bytes : ℕ
most_bytes = 65536

-- `STLG`, as one number
abbrev pub mark : ℕ
mark = 0x53544c47

-- the last 24 bytes start here
abbrev pub trailer_at : List ℕ → ℕ
trailer_at bs = length bs - 24

-- from the end of the log back to the first record, as the trailer says it
abbrev pub distance_of : List ℕ → ℕ
distance_of bs = number_at 2 bs (trailer_at bs)

-- how many records the trailer says there are
abbrev pub count_of : List ℕ → ℕ
count_of bs = number_at 2 bs (trailer_at bs + 4)

-- the last four bytes, as one number
abbrev pub mark_of : List ℕ → ℕ
mark_of bs = number_at 2 bs (trailer_at bs + 20)

-- what a log says besides its records: they start at `start`
unfoldable pub settings_of : List ℕ → Settings
settings_of bs = record {
  copies = number_at 1 bs (trailer_at bs + 8);
  threshold = number_at 1 bs (trailer_at bs + 10);
  timeout = number_at 3 bs (trailer_at bs + 12);
  count = count_of bs;
  start = length bs - distance_of bs;
}

-- "It is bad (7) when under 24 bytes, without `STLG`, or its distance isn't 24+96·count or passes the start."
abbrev pub trailer_fits : List ℕ → Bool
trailer_fits bs = eqb (mark_of bs) mark && eqb (distance_of bs) (24 + 96 * count_of bs) && leb (distance_of bs) (length bs)

-- the same at any length: bad under 24 bytes
unfoldable pub trailer_good : List ℕ → Bool
trailer_good bs = cond (ltb (length bs) 24) false (trailer_fits bs)

-- ---- the records

-- record i, of those that start at `start`
abbrev pub record_at : List ℕ → ℕ → ℕ → List ℕ
record_at bs start i = take 96 (drop (start + 96 * i) bs)

-- the first bad one of n records from i on; i + n where there is none
abbrev pub first_bad : List ℕ → ℕ → ℕ → ℕ → ℕ
first_bad bs start i zero = i
first_bad bs start i (suc n) = cond (good (record_at bs start i)) (first_bad bs start (i + 1) n) i

-- ---- the answer

-- the refusal of each fault
abbrev pub refusal_of : Fault → Refusal
refusal_of fault.TooLong = refusal.TooLong
refusal_of fault.BadTrailer = refusal.BadTrailer
refusal_of (fault.BadRecord n) = refusal.BadRecord

-- document 01's numbers: "9 above 65,536 bytes, 7 bad trailer, 8 bad record (first, from 0)"
abbrev pub too_long : ℕ
too_long = 9

-- "7 bad trailer"
abbrev pub bad_trailer : ℕ
bad_trailer = 7

-- the answer by its number: 0 with the settings, 8 with the first bad record, and otherwise the number alone
abbrev pub answer : ℕ → (first : ℕ) → Settings → Result Settings Fault
answer number first s =
    cond (eqb number 0) (Ok s) (cond (eqb number bad_record) (Err (fault.BadRecord first)) (cond (eqb number bad_trailer) (Err fault.BadTrailer) (Err fault.TooLong)))

-- the number that the first bad record gives: none is bad where it is the count
abbrev pub records_number : (first count : ℕ) → ℕ
records_number first count = cond (eqb first count) 0 bad_record

-- the answer where the trailer is good: the first bad record, or the settings where it is the count
abbrev pub by_records : ℕ → Settings → Result Settings Fault
by_records first s = answer (records_number first s.count) first s

-- "tested in that order"
abbrev pub number_by : (long kept : Bool) → (records : ℕ) → ℕ
number_by long kept records = cond long too_long (cond kept records bad_trailer)

-- the first bad record of the log, from 0; the count where all are good
abbrev pub first_of : List ℕ → ℕ
first_of bs = first_bad bs (settings_of bs).start 0 (count_of bs)

-- the answer for any bytes: 9, 7, 8 with the first bad record, or the settings
unfoldable pub log_of : List ℕ → Result Settings Fault
log_of bs = answer (number_by (ltb most_bytes (length bs)) (trailer_good bs) (records_number (first_of bs) (settings_of bs).count)) (first_of bs) (settings_of bs)

-- ---- the call of record i

-- of a good record the call that it makes, and of a bad one none
abbrev pub played_by : Result Entry Refusal → Option Call
played_by (Ok e) = Some (call_of e)
played_by (Err r) = None

-- no call where the log is too long or its trailer bad, where it has no record i, and where that record is bad
unfoldable pub call_at : List ℕ → ℕ → Option Call
call_at bs i =
    cond (ltb most_bytes (length bs)) None
    (cond (trailer_good bs)
    (cond (ltb i (count_of bs)) (played_by (read_of (record_at bs (settings_of bs).start i))) None)
    None)

-- ---- writing a trailer

-- each field at its byte: distance, count, copies, threshold, timeout, `STLG`
abbrev pub trailer_table : ℕ → ℕ → ℕ → ℕ → List Field
trailer_table count copies threshold timeout =
    bytes4 0 (24 + 96 * count)
    ∷ bytes4 4 count
    ∷ bytes2 8 copies
    ∷ bytes2 10 threshold
    ∷ bytes8 12 timeout
    ∷ bytes4 20 mark
    ∷ []

-- 24 bytes with a trailer written over them: its six fields take all of them
unfoldable pub trailer_over : List ℕ → ℕ → ℕ → ℕ → ℕ → List ℕ
trailer_over bs count copies threshold timeout = written (trailer_table count copies threshold timeout) bs

-- refused are another number of bytes than 24 (5), and more records than 65,536 bytes hold (9)
abbrev pub trailer_answer : List ℕ → ℕ → Result Unit Refusal
trailer_answer bs count = cond (eqb (length bs) 24) (cond (ltb 682 count) (Err refusal.TooLong) (Ok tt)) (Err refusal.WrongRoom)

-- where nothing is refused the trailer; a refusal changes nothing
abbrev pub trailer_after : Result Unit Refusal → List ℕ → List ℕ → List ℕ
trailer_after (Ok u) t bs = t
trailer_after (Err r) t bs = bs

-- the call: a trailer for `count` records, written over the lent bytes
unfoldable pub trailer_to : List ℕ → ℕ → ℕ → ℕ → ℕ → Wrote
trailer_to bs count copies threshold timeout =
    wrote (trailer_answer bs count) (trailer_after (trailer_answer bs count) (trailer_over bs count copies threshold timeout) bs)
