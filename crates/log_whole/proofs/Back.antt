-- A log that a writer makes is accepted, and makes the calls and says the settings that were written. Assumes nothing.
use Rattle.std.specs.Prelude.{Option, Some, ℤ, Ok}
use mathlib.Core.Path.{◌≡◌, refl, sym, ap, ap₂, ◌∙◌, subst}
use mathlib.Core.Bool.{Bool, true, false, ◌&&◌, cond}
use mathlib.Core.List.{List, [], ◌∷◌, ◌++◌, append_assoc}
use Prim.Native.Nat.{ℕ, zero, suc, ◌+◌, ◌-◌, ◌*◌, ◌^◌, ◌≤◌, ◌<◌}
use native.Mathlib.Omega.{arith}
use native.Mathlib.Nat.{le_of_suc-le-suc, not-suc-le-zero}
use lib.Dec.{lit<}
use lib.ListN.{length, get_or, take, drop, length-append}
use lib.Seq.{get_or-append-add, take_at, drop_at, drop-drop}
use borrow.Author.Tests.{eq-eqb, le-leb, le-ltb}
use Rattle.big_endian.specs.Numbers.{base, number_at}
use Rattle.big_endian.specs.Fields.{Field}
use Rattle.big_endian.proofs.Laws.{In, first, later, field_back, written-length}
use Rattle.call_types.specs.declared.ReplyObservation.{ReplyObservation}
use Rattle.record_parts.specs.declared.Entry.{Entry}
use Rattle.record_parts.specs.declared.Entry.TheVariants as entry
use Rattle.record_parts.specs.Parts.{call_of}
use Rattle.record_parts.specs.Fits.{U16, U64, EntryFits}
use Rattle.log_record.specs.Records.{record_of, good, read_of}
use Rattle.log_record.proofs.Back.{record-length}
use Rattle.log_record.proofs.Good.{written_is_good, read_back}
use Rattle.log_whole.specs.Logs.{mark, trailer_at, distance_of, count_of, mark_of, settings_of, trailer_fits, trailer_good, record_at, log_of, played_by, call_at, trailer_table, trailer_over}
use Rattle.log_whole.specs.Written.{records, AllFit, log_bytes, settings_by}
use Rattle.log_whole.proofs.Laws.{by-good, log_by_records, call_there}
use Rattle.log_whole.proofs.First.{none-bad}

-- ---- a number behind other bytes

number_behind : (k : ℕ) (xs ys : List ℕ) (at : ℕ) → number_at k (xs ++ ys) (length xs + at) ≡ number_at k ys at
number_behind zero xs ys at = get_or-append-add xs ys at 0
number_behind (suc k) xs ys at = ap₂ (λ (x y : ℕ). x * base k + y) (number_behind k xs ys at)
    (ap (number_at k (xs ++ ys)) (assoc (length xs) at (2 ^ k)) ∙ number_behind k xs ys (at + 2 ^ k))
  where
    assoc : (a b c : ℕ) → a + b + c ≡ a + (b + c)
    assoc a b c = omega arith

-- ---- the trailer

module _ (room : List ℕ) (count copies threshold timeout : ℕ) (sized : length room ≡ 24) (few : count ≤ 682) (fc : U16 copies) (ft : U16 threshold) (fo : U64 timeout) where
  abbrev trailer : List ℕ
  trailer = trailer_over room count copies threshold timeout

  trailer_length : length trailer ≡ 24
  unfolding trailer_over
  trailer_length = written-length (trailer_table count copies threshold timeout) room ∙ sized

  back : (f : Field) → In f (trailer_table count copies threshold timeout) → f.value < base f.width → number_at f.width trailer f.at ≡ f.value
  unfolding trailer_over
  back f i l = field_back 24 (trailer_table count copies threshold timeout) room f sized tt i l

  distance_back : number_at 2 trailer 0 ≡ 24 + 96 * count
  distance_back = back _ (first refl) (omega arith)

  count-back : number_at 2 trailer 4 ≡ count
  count-back = back _ (later (first refl)) (omega arith)

  copies-back : number_at 1 trailer 8 ≡ copies
  copies-back = back _ (later (later (first refl))) fc

  threshold_back : number_at 1 trailer 10 ≡ threshold
  threshold_back = back _ (later (later (later (first refl)))) ft

  timeout_back : number_at 3 trailer 12 ≡ timeout
  timeout_back = back _ (later (later (later (later (first refl))))) fo

  mark-back : number_at 2 trailer 20 ≡ mark
  mark-back = back _ (later (later (later (later (later (first refl)))))) (lit< tt)

-- ---- the records

records-length : (es : List Entry) → length (records es) ≡ 96 * length es
records-length [] = refl
records-length (e ∷ es) = length-append (record_of e) (records es) ∙ ap₂ ◌+◌ (record-length e) (records-length es) ∙ one_more (length es)
  where
    one_more : (n : ℕ) → 96 + 96 * n ≡ 96 * suc n
    one_more n = omega arith

record_there : (es : List Entry) (rest : List ℕ) (i : ℕ) → i < length es → take 96 (drop (96 * i) (records es ++ rest)) ≡ record_of (get_or es i entry.Idle)
record_there [] rest i l = absurd (not-suc-le-zero l)
record_there (e ∷ es) rest zero l =
    ap (take 96) (append_assoc (record_of e) (records es) rest) ∙ take_at (record_of e) (records es ++ rest) 96 (record-length e)
record_there (e ∷ es) rest (suc i) l =
    ap (λ (n : ℕ). take 96 (drop n ((record_of e ++ records es) ++ rest))) (one_more i)
    ∙ ap (take 96) (sym (drop-drop (96 * i) 96 ((record_of e ++ records es) ++ rest))
    ∙ ap (drop (96 * i)) (ap (drop 96) (append_assoc (record_of e) (records es) rest) ∙ drop_at (record_of e) (records es ++ rest) 96 (record-length e)))
    ∙ record_there es rest i (le_of_suc-le-suc l)
  where
    one_more : (n : ℕ) → 96 * suc n ≡ 96 + 96 * n
    one_more n = omega arith

fits-at : (es : List Entry) → AllFit es → (i : ℕ) → EntryFits (get_or es i entry.Idle)
fits-at [] h i = tt
fits-at (e ∷ es) h zero = h.0
fits-at (e ∷ es) h (suc i) = fits-at es h.1 i

-- ---- the log

module _ (before : List ℕ) (es : List Entry) (room : List ℕ) (copies threshold timeout : ℕ) (sized : length room ≡ 24) (fits : AllFit es)
    (fc : U16 copies) (ft : U16 threshold) (fo : U64 timeout) (small : length (log_bytes before es room copies threshold timeout) ≤ 65536) where
  abbrev end : List ℕ
  end = trailer_over room (length es) copies threshold timeout

  abbrev front : List ℕ
  front = before ++ records es

  abbrev bytes : List ℕ
  bytes = log_bytes before es room copies threshold timeout

  end_length : length end ≡ 24
  unfolding trailer_over
  end_length = written-length (trailer_table (length es) copies threshold timeout) room ∙ sized

  front_length : length front ≡ length before + 96 * length es
  front_length = length-append before (records es) ∙ ap (λ (n : ℕ). length before + n) (records-length es)

  whole_length : length bytes ≡ length before + 96 * length es + 24
  whole_length = length-append front end ∙ ap₂ ◌+◌ front_length end_length

  few : length es ≤ 682
  few = bounded (length before) (length es) (length bytes) whole_length small
    where
      bounded : (b n l : ℕ) → l ≡ b + 96 * n + 24 → l ≤ 65536 → n ≤ 682
      bounded b n l e h = omega arith

  trailer_there : trailer_at bytes ≡ length front
  trailer_there = ap (λ (n : ℕ). n - 24) (length-append front end ∙ ap (λ (n : ℕ). length front + n) end_length) ∙ less (length front)
    where
      less : (n : ℕ) → n + 24 - 24 ≡ n
      less n = omega arith

  at : (k a : ℕ) → number_at k bytes (trailer_at bytes + a) ≡ number_at k end a
  at k a = ap (λ (n : ℕ). number_at k bytes (n + a)) trailer_there ∙ number_behind k front end a

  distance_is : distance_of bytes ≡ 24 + 96 * length es
  distance_is =
      ap (number_at 2 bytes) (none (trailer_at bytes)) ∙ at 2 0 ∙ distance_back room (length es) copies threshold timeout sized few fc ft fo
    where
      none : (n : ℕ) → n ≡ n + 0
      none n = omega arith

  count-read : count_of bytes ≡ length es
  count-read = at 2 4 ∙ count-back room (length es) copies threshold timeout sized few fc ft fo

  mark_is : mark_of bytes ≡ mark
  mark_is = at 2 20 ∙ mark-back room (length es) copies threshold timeout sized few fc ft fo

  start-read : length bytes - distance_of bytes ≡ length before
  start-read = ap₂ ◌-◌ whole_length distance_is ∙ less (length before) (length es)
    where
      less : (b n : ℕ) → b + 96 * n + 24 - (24 + 96 * n) ≡ b
      less b n = omega arith

  settings_is : settings_of bytes ≡ settings_by before es copies threshold timeout
  unfolding settings_of
  settings_is = λ i. record {
    copies = (at 1 8 ∙ copies-back room (length es) copies threshold timeout sized few fc ft fo) i;
    threshold = (at 1 10 ∙ threshold_back room (length es) copies threshold timeout sized few fc ft fo) i;
    timeout = (at 3 12 ∙ timeout_back room (length es) copies threshold timeout sized few fc ft fo) i;
    count = count-read i;
    start = start-read i;
  }

  kept : trailer_good bytes ≡ true
  unfolding trailer_good
  kept =
      ap (λ (b : Bool). cond b false (trailer_fits bytes)) (le-ltb (length bytes) 24 long)
      ∙ (λ i. eq-eqb (mark_of bytes) mark mark_is i && eq-eqb (distance_of bytes) (24 + 96 * count_of bytes) whole i && le-leb (distance_of bytes) (length bytes) within i)
    where
      long : 24 ≤ length bytes
      long = subst (λ (n : ℕ). 24 ≤ n) (sym whole_length) (behind (length before + 96 * length es))
        where
          behind : (n : ℕ) → 24 ≤ n + 24
          behind n = omega arith

      whole : distance_of bytes ≡ 24 + 96 * count_of bytes
      whole = distance_is ∙ ap (λ (n : ℕ). 24 + 96 * n) (sym count-read)

      within : distance_of bytes ≤ length bytes
      within = go (distance_of bytes) (length bytes) (length before) (length es) distance_is whole_length
        where
          go : (d l b n : ℕ) → d ≡ 24 + 96 * n → l ≡ b + 96 * n + 24 → d ≤ l
          go d l b n e f = omega arith

  record_is : (i : ℕ) → i < length es → record_at bytes (length before) i ≡ record_of (get_or es i entry.Idle)
  record_is i l =
      ap (take 96) (sym (drop-drop (96 * i) (length before) bytes)
      ∙ ap (drop (96 * i)) (ap (drop (length before)) (append_assoc before (records es) end) ∙ drop_at before (records es ++ end) (length before) refl))
      ∙ record_there es end i l

  good_there : (i : ℕ) → i < length es → good (record_at bytes (length before) i) ≡ true
  good_there i l = ap good (record_is i l) ∙ written_is_good (get_or es i entry.Idle) (fits-at es fits i)

  -- The log is accepted with the settings that were written.
  pub log_back : log_of bytes ≡ Ok (settings_by before es copies threshold timeout)
  log_back =
      let s = settings_by before es copies threshold timeout in
      sym (by-good (length es) s refl ∙ log_by_records bytes (length es) s small kept (sym settings_is) (sym (none-bad bytes (length before) (length es) good_there)))

  -- Record i makes the call of the entry that was written there.
  pub calls_back : (i : ℕ) → i < length es → call_at bytes i ≡ Some (call_of (get_or es i entry.Idle))
  calls_back i l =
      sym (call_there bytes i (settings_by before es copies threshold timeout) small kept (sym settings_is) l)
      ∙ ap (λ (r : List ℕ). played_by (read_of r)) (record_is i l) ∙ ap played_by (read_back (get_or es i entry.Idle) (fits-at es fits i))

-- THE FIELD OF FLAG 16 DOES NOT MATTER: the records of two observes that differ in it alone make the same call.
pub converted-unseen :
    (o : ReplyObservation) (t u : Option ℤ) → EntryFits (entry.Observe o t) → EntryFits (entry.Observe o u)
    → played_by (read_of (record_of (entry.Observe o t))) ≡ played_by (read_of (record_of (entry.Observe o u)))
converted-unseen o t u f g = ap played_by (read_back (entry.Observe o t) f) ∙ sym (ap played_by (read_back (entry.Observe o u) g))
