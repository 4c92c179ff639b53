-- What is written of a cut log (document 02, Q-11): the records that were kept, unchanged, in a log that the reader accepts with exactly these and the
-- settings; a whole log as it is; and the same again when it is run on what it wrote. Assumes nothing.
use Rattle.std.specs.Prelude.{Err, Ok}
use mathlib.Core.Path.{◌≡◌, refl, sym, ap, ◌∙◌, subst}
use mathlib.Core.Bool.{Bool, true, false, cond}
use mathlib.Core.List.{List, ◌++◌}
use Prim.Native.Nat.{ℕ, ◌+◌, ◌-◌, ◌*◌, ◌≤◌, ◌<◌}
use native.Mathlib.Omega.{arith}
use lib.ListN.{length, take, drop, length-append, take-append-drop}
use lib.Seq.{length-take-le, take_at}
use Rattle.record_parts.specs.Fits.{U16, U64}
use Rattle.log_record.specs.Records.{good, read_of}
use Rattle.log_whole.specs.declared.Settings.{Settings}
use Rattle.log_whole.specs.declared.Fault.TheVariants as fault
use Rattle.log_whole.specs.Logs.{trailer_at, count_of, settings_of, record_at, log_of, played_by, call_at}
use Rattle.log_whole.specs.Meaning.{Means}
use Rattle.log_whole.proofs.Accepted.{answer_means}
use Rattle.log_whole.proofs.Laws.{count_is, records-within, call_there}
use Rattle.log_cut.specs.Cut.{kept_of, stop_of, whole_by, whole, dropped_of, trailer_of, output_of, settings_for}
use Rattle.log_cut.proofs.Kept.{first-at, keeps, kept_is, whole_is, accepted-whole, whole_keeps}
use Rattle.log_cut.proofs.Fresh.{trailer_length, record-before, fresh-accepted, fresh-refused}

-- ---- by whether the log is whole

module _ (bs : List ℕ) (copies threshold timeout : ℕ) where
  pub output_whole : whole bs ≡ true → output_of bs copies threshold timeout ≡ bs
  unfolding output_of
  output_whole w = ap (λ (b : Bool). cond b bs (take (stop_of bs) bs ++ trailer_of (kept_of bs) copies threshold timeout)) w

  pub output_cut : whole bs ≡ false → output_of bs copies threshold timeout ≡ take (stop_of bs) bs ++ trailer_of (kept_of bs) copies threshold timeout
  unfolding output_of
  output_cut w = ap (λ (b : Bool). cond b bs (take (stop_of bs) bs ++ trailer_of (kept_of bs) copies threshold timeout)) w

  settings_whole : whole bs ≡ true → settings_for bs copies threshold timeout ≡ settings_of bs
  unfolding settings_for
  settings_whole w =
      ap (λ (b : Bool). cond b (settings_of bs) (record { copies = copies; threshold = threshold; timeout = timeout; count = kept_of bs; start = 0 })) w

  settings_cut : whole bs ≡ false
      → settings_for bs copies threshold timeout ≡ record { copies = copies; threshold = threshold; timeout = timeout; count = kept_of bs; start = 0 }
  unfolding settings_for
  settings_cut w =
      ap (λ (b : Bool). cond b (settings_of bs) (record { copies = copies; threshold = threshold; timeout = timeout; count = kept_of bs; start = 0 })) w

pub dropped_whole : (bs : List ℕ) → whole bs ≡ true → dropped_of bs ≡ 0
unfolding dropped_of
dropped_whole bs w = ap (λ (b : Bool). cond b 0 (length bs - stop_of bs)) w

pub dropped_cut : (bs : List ℕ) → whole bs ≡ false → dropped_of bs ≡ length bs - stop_of bs
unfolding dropped_of
dropped_cut bs w = ap (λ (b : Bool). cond b 0 (length bs - stop_of bs)) w

-- ---- the log that is written

front_length : (bs : List ℕ) → length (take (stop_of bs) bs) ≡ 96 * kept_of bs
front_length bs = length-take-le (stop_of bs) bs (keeps bs).there

pub kept_few : (bs : List ℕ) → length bs ≤ 65536 → kept_of bs ≤ 682
kept_few bs small = few (kept_of bs) (length bs) (keeps bs).there small
  where
    few : (k n : ℕ) → 96 * k ≤ n → n ≤ 65536 → k ≤ 682
    few k n h l = omega arith

pub taken : (bs : List ℕ) (n j : ℕ) → 96 * j + 96 ≤ n → n ≤ length bs → record_at (take n bs) 0 j ≡ record_at bs 0 j
taken bs n j h l =
    sym (record-before (take n bs) (drop n bs) j (subst (λ (m : ℕ). 96 * j + 96 ≤ m) (sym (length-take-le n bs l)) h))
    ∙ ap (λ (x : List ℕ). record_at x 0 j) (take-append-drop n bs)

module _ (bs : List ℕ) (copies threshold timeout : ℕ) where
  -- It has 24 bytes more than the records that were kept.
  pub output_length : length (output_of bs copies threshold timeout) ≡ stop_of bs + 24
  output_length = by (whole bs) refl
    where
      by : (b : Bool) → whole bs ≡ b → length (output_of bs copies threshold timeout) ≡ stop_of bs + 24
      by true w = ap length (output_whole bs copies threshold timeout w) ∙ (whole_is bs w).sized ∙ ap (λ (k : ℕ). 96 * k + 24) (sym (whole_keeps bs w))
      by false w =
          ap length (output_cut bs copies threshold timeout w)
          ∙ length-append (take (stop_of bs) bs) (trailer_of (kept_of bs) copies threshold timeout)
          ∙ (λ i. front_length bs i + trailer_length (kept_of bs) copies threshold timeout i)

  -- "The record bytes that were kept are unchanged".
  pub kept-unchanged : take (stop_of bs) (output_of bs copies threshold timeout) ≡ take (stop_of bs) bs
  kept-unchanged = by (whole bs) refl
    where
      by : (b : Bool) → whole bs ≡ b → take (stop_of bs) (output_of bs copies threshold timeout) ≡ take (stop_of bs) bs
      by true w = ap (take (stop_of bs)) (output_whole bs copies threshold timeout w)
      by false w =
          ap (take (stop_of bs)) (output_cut bs copies threshold timeout w)
          ∙ take_at (take (stop_of bs) bs) (trailer_of (kept_of bs) copies threshold timeout) (stop_of bs) (front_length bs)

  -- Its records are the first ones of the bytes.
  pub output_records : (j : ℕ) → j < kept_of bs → record_at (output_of bs copies threshold timeout) 0 j ≡ record_at bs 0 j
  output_records j l = by (whole bs) refl
    where
      within : (j k : ℕ) → j < k → 96 * j + 96 ≤ 96 * k
      within j k h = omega arith

      by : (b : Bool) → whole bs ≡ b → record_at (output_of bs copies threshold timeout) 0 j ≡ record_at bs 0 j
      by true w = ap (λ (x : List ℕ). record_at x 0 j) (output_whole bs copies threshold timeout w)
      by false w =
          ap (λ (x : List ℕ). record_at x 0 j) (output_cut bs copies threshold timeout w)
          ∙ record-before (take (stop_of bs) bs) (trailer_of (kept_of bs) copies threshold timeout) j
          (subst (λ (m : ℕ). 96 * j + 96 ≤ m) (sym (front_length bs)) (within j (kept_of bs) l))
          ∙ taken bs (stop_of bs) j (within j (kept_of bs) l) (keeps bs).there

  -- it says as many records as were kept, from byte 0 on
  pub settings_count : (settings_for bs copies threshold timeout).count ≡ kept_of bs
  settings_count = by (whole bs) refl
    where
      by : (b : Bool) → whole bs ≡ b → (settings_for bs copies threshold timeout).count ≡ kept_of bs
      by true w = ap (λ (s : Settings). s.count) (settings_whole bs copies threshold timeout w) ∙ count_is bs ∙ sym (whole_keeps bs w)
      by false w = ap (λ (s : Settings). s.count) (settings_cut bs copies threshold timeout w)

  pub settings_start : (settings_for bs copies threshold timeout).start ≡ 0
  settings_start = by (whole bs) refl
    where
      by : (b : Bool) → whole bs ≡ b → (settings_for bs copies threshold timeout).start ≡ 0
      by true w = ap (λ (s : Settings). s.start) (settings_whole bs copies threshold timeout w) ∙ (whole_is bs w).first
      by false w = ap (λ (s : Settings). s.start) (settings_cut bs copies threshold timeout w)

  -- "No records kept gives a log of count 0": the trailer alone.
  pub none_kept : kept_of bs ≡ 0 → whole bs ≡ false → output_of bs copies threshold timeout ≡ trailer_of 0 copies threshold timeout
  none_kept z w =
      output_cut bs copies threshold timeout w
      ∙ ap (λ (k : ℕ). take (96 * k) bs ++ trailer_of k copies threshold timeout) z

-- ---- accepted

module _ (bs : List ℕ) (copies threshold timeout : ℕ) (small : length bs ≤ 65536) (fc : U16 copies) (ft : U16 threshold) (fo : U64 timeout) where
  cut_accepted : whole bs ≡ false → log_of (take (stop_of bs) bs ++ trailer_of (kept_of bs) copies threshold timeout)
      ≡ Ok (record { copies = copies; threshold = threshold; timeout = timeout; count = kept_of bs; start = 0 })
  cut_accepted w =
      fresh-accepted (take (stop_of bs) bs) (kept_of bs) copies threshold timeout (front_length bs) (kept_few bs small) fc ft fo
      (first-at (take (stop_of bs) bs ++ trailer_of (kept_of bs) copies threshold timeout) (kept_of bs) (kept_of bs) (omega arith)
      (λ j l.
      ap good (ap (λ (x : List ℕ). record_at x 0 j) (sym (output_cut bs copies threshold timeout w)) ∙ output_records bs copies threshold timeout j l)
      ∙ (keeps bs).goods j l)
      (λ l. absurd (never (kept_of bs) l)))
    where
      never : (k : ℕ) → k < k → ⊥
      never k l = omega arith

  -- "its output is accepted by `linkreport`": by the reader, with the settings and as many records as were kept.
  pub output_accepted : log_of (output_of bs copies threshold timeout) ≡ Ok (settings_for bs copies threshold timeout)
  output_accepted = by (whole bs) refl
    where
      by : (b : Bool) → whole bs ≡ b → log_of (output_of bs copies threshold timeout) ≡ Ok (settings_for bs copies threshold timeout)
      by true w =
          ap log_of (output_whole bs copies threshold timeout w) ∙ (whole_is bs w).accepted ∙ sym (ap Ok (settings_whole bs copies threshold timeout w))
      by false w =
          ap log_of (output_cut bs copies threshold timeout w) ∙ cut_accepted w ∙ sym (ap Ok (settings_cut bs copies threshold timeout w))

  pub again_whole : whole (output_of bs copies threshold timeout) ≡ true
  again_whole = accepted-whole (output_of bs copies threshold timeout) (settings_for bs copies threshold timeout) output_accepted (settings_start bs copies threshold timeout)

  means : Means (output_of bs copies threshold timeout) (Ok (settings_for bs copies threshold timeout))
  means = subst (Means (output_of bs copies threshold timeout)) output_accepted (answer_means (output_of bs copies threshold timeout))

  -- Record i of it plays what record i of the bytes says.
  pub output_calls : (i : ℕ) → i < kept_of bs → call_at (output_of bs copies threshold timeout) i ≡ played_by (read_of (record_at bs 0 i))
  output_calls i l =
      sym (call_there (output_of bs copies threshold timeout) i (settings_for bs copies threshold timeout) means.0 means.1 means.2
      (subst (λ (n : ℕ). i < n) (sym (settings_count bs copies threshold timeout)) l))
      ∙ ap (λ (a : ℕ). played_by (read_of (record_at (output_of bs copies threshold timeout) a i))) (settings_start bs copies threshold timeout)
      ∙ ap (λ (r : List ℕ). played_by (read_of r)) (output_records bs copies threshold timeout i l)

  -- Run on what it wrote, with any settings, it gives that back, keeps as many records and drops nothing.
  pub again_same : (c t o : ℕ) → output_of (output_of bs copies threshold timeout) c t o ≡ output_of bs copies threshold timeout
  again_same c t o = output_whole (output_of bs copies threshold timeout) c t o again_whole

  pub again_kept : kept_of (output_of bs copies threshold timeout) ≡ kept_of bs
  again_kept =
      whole_keeps (output_of bs copies threshold timeout) again_whole ∙ sym (count_is (output_of bs copies threshold timeout))
      ∙ ap (λ (s : Settings). s.count) (sym means.2) ∙ settings_count bs copies threshold timeout

  pub again_dropped : dropped_of (output_of bs copies threshold timeout) ≡ 0
  again_dropped = dropped_whole (output_of bs copies threshold timeout) again_whole

-- ---- a whole log

pub record GivenBack (bs : List ℕ) (s : Settings) (copies threshold timeout : ℕ) : Type 0 where
  pub same : output_of bs copies threshold timeout ≡ bs
  pub settings : settings_for bs copies threshold timeout ≡ s
  pub kept : kept_of bs ≡ s.count
  pub stop : stop_of bs ≡ trailer_at bs
  pub dropped : dropped_of bs ≡ 0

-- "A log that `linkreport` accepts, with no leading matter, is given back as it is, its own trailer settings too, with 0 dropped and the stop at the
-- first byte of its trailer."
pub given_back : (bs : List ℕ) (s : Settings) (copies threshold timeout : ℕ) → log_of bs ≡ Ok s → s.start ≡ 0
    → GivenBack bs s copies threshold timeout
given_back bs s copies threshold timeout e z =
    let w : whole bs ≡ true = accepted-whole bs s e z in
    let m : Means bs (Ok s) = subst (Means bs) e (answer_means bs) in
    record {
      same = output_whole bs copies threshold timeout w;
      settings = settings_whole bs copies threshold timeout w ∙ sym m.2;
      kept = whole_keeps bs w ∙ sym (count_is bs) ∙ ap (λ (x : Settings). x.count) (sym m.2);
      stop = ap (λ (k : ℕ). 96 * k) (whole_keeps bs w) ∙ before (count_of bs) (length bs) (whole_is bs w).sized;
      dropped = dropped_whole bs w;
    }
  where
    before : (k n : ℕ) → n ≡ 96 * k + 24 → 96 * k ≡ n - 24
    before k n e = omega arith

-- What is dropped of any other are the bytes from the stop on.
pub dropped_behind : (bs : List ℕ) → whole bs ≡ false → stop_of bs + dropped_of bs ≡ length bs
dropped_behind bs w = ap (λ (n : ℕ). stop_of bs + n) (dropped_cut bs w) ∙ all (stop_of bs) (length bs) (keeps bs).there
  where
    all : (s n : ℕ) → s ≤ n → s + (n - s) ≡ n
    all s n h = omega arith

-- ---- "A bad record here is exactly one that document 01 answers with 8."

module _ (copies threshold timeout : ℕ) (fc : U16 copies) (ft : U16 threshold) (fo : U64 timeout) where
  -- The kept records and the next whole one, in a log of their own, are refused with 8 at that one.
  pub stops-at_8 : (bs : List ℕ) → length bs ≤ 65536 → stop_of bs + 96 ≤ length bs
      → log_of (take (stop_of bs + 96) bs ++ trailer_of (kept_of bs + 1) copies threshold timeout) ≡ Err (fault.BadRecord (kept_of bs))
  stops-at_8 bs small more =
      fresh-refused (take (stop_of bs + 96) bs) (kept_of bs + 1) copies threshold timeout size (few (kept_of bs) (length bs) more small) fc ft fo (kept_of bs)
      (first-at (take (stop_of bs + 96) bs ++ trailer_of (kept_of bs + 1) copies threshold timeout) (kept_of bs + 1) (kept_of bs) (omega arith)
      (λ j l. ap good (same j (within j (kept_of bs) l)) ∙ (keeps bs).goods j l)
      (λ l. ap good (same (kept_of bs) (omega arith)) ∙ (keeps bs).next more))
      (λ e. never (kept_of bs) e)
    where
      few : (k n : ℕ) → 96 * k + 96 ≤ n → n ≤ 65536 → k + 1 ≤ 682
      few k n h l = omega arith

      within : (j k : ℕ) → j < k → 96 * j + 96 ≤ 96 * k + 96
      within j k l = omega arith

      never : (k : ℕ) → k ≡ k + 1 → ⊥
      never k e = omega arith

      size : length (take (stop_of bs + 96) bs) ≡ 96 * (kept_of bs + 1)
      size = length-take-le (stop_of bs + 96) bs more ∙ next (kept_of bs)
        where
          next : (k : ℕ) → 96 * k + 96 ≡ 96 * (k + 1)
          next k = omega arith

      same : (j : ℕ) → 96 * j + 96 ≤ stop_of bs + 96
          → record_at (take (stop_of bs + 96) bs ++ trailer_of (kept_of bs + 1) copies threshold timeout) 0 j ≡ record_at bs 0 j
      same j h =
          record-before (take (stop_of bs + 96) bs) (trailer_of (kept_of bs + 1) copies threshold timeout) j
          (subst (λ (m : ℕ). 96 * j + 96 ≤ m) (sym (length-take-le (stop_of bs + 96) bs more)) h)
          ∙ taken bs (stop_of bs + 96) j h more

not_whole : (bs : List ℕ) (n : ℕ) → log_of bs ≡ Err (fault.BadRecord n) → whole bs ≡ false
unfolding whole
not_whole bs n e = ap whole_by e

-- A log that is refused with 8 at record n, with no leading matter, is kept up to that record.
pub refused_8 : (bs : List ℕ) (n : ℕ) → log_of bs ≡ Err (fault.BadRecord n) → (settings_of bs).start ≡ 0 → (kept_of bs ≡ n) × (whole bs ≡ false)
refused_8 bs n e z =
    let m : Means bs (Err (fault.BadRecord n)) = subst (Means bs) e (answer_means bs) in
    let r : (settings_of bs).start + 96 * count_of bs + 24 ≡ length bs = records-within bs m.1 in (
      kept_is bs n (record {
        there = room (settings_of bs).start (count_of bs) n (length bs) m.2 r;
        goods = λ j l. ap (λ (a : ℕ). good (record_at bs a j)) (sym z) ∙ m.4 j l;
        next = λ l. ap (λ (a : ℕ). good (record_at bs a n)) (sym z) ∙ m.3;
      }),
      not_whole bs n e,
    )
  where
    room : (a k n l : ℕ) → n < k → a + 96 * k + 24 ≡ l → 96 * n ≤ l
    room a k n l h e = omega arith
