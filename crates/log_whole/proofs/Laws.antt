-- What the proofs of this crate's functions need of the definitions. Assumes nothing.
use Rattle.std.specs.Prelude.{Option, None, Result, Ok, Err, is_ok}
use Rattle.call_types.specs.declared.Call.{Call}
use mathlib.Core.Path.{◌≡◌, refl, sym, ap, ap₂, ◌∙◌, subst}
use mathlib.Core.Bool.{Bool, true, false, ◌&&◌, cond}
use mathlib.Core.List.{List}
use Prim.Native.Nat.{ℕ, suc, ◌+◌, ◌-◌, ◌*◌, ◌≤◌, ◌<◌}
use native.Mathlib.Omega.{arith}
use lib.Dec.{eqb, leb, ltb}
use lib.ListN.{length, take, drop}
use borrow.Author.Tests.{eq-eqb, ne_eqb, eqb-true, leb-true, lt-ltb, le-ltb, ltb-false}
use Rattle.limits.specs.declared.Refusal.{Refusal}
use Rattle.limits.specs.declared.Refusal.TheVariants as refusal
use Rattle.record_parts.specs.declared.Entry.{Entry}
use Rattle.log_record.specs.Records.{entry_of, good, read_of, wrote}
use Rattle.log_record.specs.Records as records
use Rattle.log_whole.specs.declared.Settings.{Settings}
use Rattle.log_whole.specs.declared.Fault.{Fault}
use Rattle.log_whole.specs.declared.Fault.TheVariants as fault
use Rattle.log_whole.specs.Logs.{mark, distance_of, count_of, mark_of, settings_of, trailer_fits, trailer_good, record_at, first_bad, answer, records_number, by_records, number_by, first_of, log_of, played_by, call_at}
use Rattle.big_endian.specs.Fields.{written}
use Rattle.log_whole.specs.Logs.{trailer_table, trailer_over, trailer_answer, trailer_after, trailer_to}

-- ---- the trailer

pub trailer_short : (bs : List ℕ) → length bs < 24 → false ≡ trailer_good bs
unfolding trailer_good
trailer_short bs h = sym (ap (λ (b : Bool). cond b false (trailer_fits bs)) (lt-ltb (length bs) 24 h))

pub trailer_long : (bs : List ℕ) (b : Bool) → 24 ≤ length bs → b ≡ trailer_fits bs → b ≡ trailer_good bs
unfolding trailer_good
trailer_long bs b h e = e ∙ sym (ap (λ (s : Bool). cond s false (trailer_fits bs)) (le-ltb (length bs) 24 h))

pub record TrailerFacts (bs : List ℕ) : Type 0 where
  pub long : 24 ≤ length bs
  pub marked : mark_of bs ≡ mark
  pub whole : distance_of bs ≡ 24 + 96 * count_of bs
  pub within : distance_of bs ≤ length bs

three : (a b c : Bool) → a && b && c ≡ true → (a ≡ true) × (b ≡ true) × (c ≡ true)
three true true true e = (refl, refl, refl)
three true true false e = absurd (let z : ◌≡◌ {A = ℕ} 0 1 = cc in omega arith)
three true false c e = absurd (let z : ◌≡◌ {A = ℕ} 0 1 = cc in omega arith)
three false b c e = absurd (let z : ◌≡◌ {A = ℕ} 0 1 = cc in omega arith)

pub trailer_facts : (bs : List ℕ) → trailer_good bs ≡ true → TrailerFacts bs
unfolding trailer_good
trailer_facts bs e = go (ltb (length bs) 24) refl e
  where
    fits : 24 ≤ length bs → trailer_fits bs ≡ true → TrailerFacts bs
    fits l h =
        let p = three (eqb (mark_of bs) mark) (eqb (distance_of bs) (24 + 96 * count_of bs)) (leb (distance_of bs) (length bs)) h in
        record {
          long = l;
          marked = eqb-true (mark_of bs) mark p.0;
          whole = eqb-true (distance_of bs) (24 + 96 * count_of bs) p.1;
          within = leb-true (distance_of bs) (length bs) p.2;
        }

    go : (b : Bool) → ltb (length bs) 24 ≡ b → cond b false (trailer_fits bs) ≡ true → TrailerFacts bs
    go true q h = absurd (let z : ◌≡◌ {A = ℕ} 0 1 = cc in omega arith)
    go false q h = fits (ltb-false (length bs) 24 q) h

pub count_is : (bs : List ℕ) → (settings_of bs).count ≡ count_of bs
unfolding settings_of
count_is bs = refl

pub start_is : (bs : List ℕ) → (settings_of bs).start ≡ length bs - distance_of bs
unfolding settings_of
start_is bs = refl

-- the records of a good trailer end where it starts
pub records-within : (bs : List ℕ) → trailer_good bs ≡ true → (settings_of bs).start + 96 * count_of bs + 24 ≡ length bs
records-within bs e =
    let f = trailer_facts bs e in
    ap (λ (n : ℕ). n + 96 * count_of bs + 24) (start_is bs) ∙ whole (length bs) (distance_of bs) (count_of bs) f.whole f.within
  where
    whole : (n d k : ℕ) → d ≡ 24 + 96 * k → d ≤ n → n - d + 96 * k + 24 ≡ n
    whole n d k p q = omega arith

pub settings_within : (bs : List ℕ) (s : Settings) → trailer_good bs ≡ true → s ≡ settings_of bs → s.start + 96 * s.count ≤ length bs
settings_within bs s e q =
    subst (λ (x : Settings). x.start + 96 * x.count ≤ length bs) (sym q)
    (subst (λ (n : ℕ). (settings_of bs).start + 96 * n ≤ length bs) (sym (count_is bs))
    (fewer ((settings_of bs).start + 96 * count_of bs) (length bs) (records-within bs e)))
  where
    fewer : (m n : ℕ) → m + 24 ≡ n → m ≤ n
    fewer m n h = omega arith

pub one_within : (bs : List ℕ) (s : Settings) (i : ℕ) → trailer_good bs ≡ true → s ≡ settings_of bs → i < s.count → s.start + 96 * i + 96 ≤ length bs
one_within bs s i e q l = sooner s.start i s.count (length bs) l (settings_within bs s e q)
  where
    sooner : (a i k n : ℕ) → i < k → a + 96 * k ≤ n → a + 96 * i + 96 ≤ n
    sooner a i k n l h = omega arith

-- ---- records

pub same-part : (bs : List ℕ) (at : ℕ) → take (at + 96 - at) (drop at bs) ≡ take 96 (drop at bs)
same-part bs at = ap (λ (n : ℕ). take n (drop at bs)) (size at)
  where
    size : (n : ℕ) → n + 96 - n ≡ 96
    size n = omega arith

pub good_of_read : (r : List ℕ) (a : Result Entry Refusal) (b : Bool) → length r ≡ 96 → a ≡ read_of r → b ≡ is_ok a → b ≡ good r
unfolding read_of
good_of_read r a b l e h =
    h ∙ ap is_ok e ∙ ap (λ (s : Bool). is_ok (records.answer s (good r) (entry_of r))) (eq-eqb (length r) 96 l) ∙ by (good r)
  where
    by : (g : Bool) → is_ok (records.answer true g (entry_of r)) ≡ g
    by true = refl
    by false = refl

-- ---- the first bad record

pub bad_begin : (bs : List ℕ) (start n : ℕ) → first_bad bs start 0 n ≡ first_bad bs start 0 (n - 0)
bad_begin bs start n = ap (first_bad bs start 0) (none n)
  where
    none : (n : ℕ) → n ≡ n - 0
    none n = omega arith

pub bad-step : (bs : List ℕ) (start i n : ℕ) → i < n → good (record_at bs start i) ≡ true → first_bad bs start i (n - i) ≡ first_bad bs start (i + 1) (n - (i + 1))
bad-step bs start i n l g =
    ap (first_bad bs start i) (less i n l) ∙ ap (λ (b : Bool). cond b (first_bad bs start (i + 1) (n - (i + 1))) i) g
  where
    less : (i n : ℕ) → i < n → n - i ≡ suc (n - (i + 1))
    less i n l = omega arith

pub bad_stop : (bs : List ℕ) (start i n : ℕ) → i < n → good (record_at bs start i) ≡ false → first_bad bs start i (n - i) ≡ i
bad_stop bs start i n l g =
    ap (first_bad bs start i) (less i n l) ∙ ap (λ (b : Bool). cond b (first_bad bs start (i + 1) (n - (i + 1))) i) g
  where
    less : (i n : ℕ) → i < n → n - i ≡ suc (n - (i + 1))
    less i n l = omega arith

pub bad_end : (bs : List ℕ) (start i n : ℕ) → i ≡ n → first_bad bs start i (n - i) ≡ n
bad_end bs start i n e = ap (first_bad bs start i) (none i n e) ∙ e
  where
    none : (i n : ℕ) → i ≡ n → n - i ≡ 0
    none i n e = omega arith

-- ---- the answers

pub by-good : (first : ℕ) (s : Settings) → first ≡ s.count → Ok s ≡ by_records first s
by-good first s e = sym (ap (λ (b : Bool). answer (cond b 0 8) first s) (eq-eqb first s.count e))

pub by-bad : (first : ℕ) (s : Settings) → (first ≡ s.count → ⊥) → Err (fault.BadRecord first) ≡ by_records first s
by-bad first s e = sym (ap (λ (b : Bool). answer (cond b 0 8) first s) (ne_eqb first s.count e))

abbrev log_by : List ℕ → Bool → Bool → Result Settings Fault
log_by bs long kept = answer (number_by long kept (records_number (first_of bs) (settings_of bs).count)) (first_of bs) (settings_of bs)

pub log_too_long : (bs : List ℕ) → 65536 < length bs → Err fault.TooLong ≡ log_of bs
unfolding log_of
log_too_long bs h = sym (ap (λ (b : Bool). log_by bs b (trailer_good bs)) (lt-ltb 65536 (length bs) h))

pub log_bad_trailer : (bs : List ℕ) → length bs ≤ 65536 → trailer_good bs ≡ false → Err fault.BadTrailer ≡ log_of bs
unfolding log_of
log_bad_trailer bs h g = sym (ap₂ (log_by bs) (le-ltb 65536 (length bs) h) g)

pub log_by_records : (bs : List ℕ) (first : ℕ) (s : Settings) → length bs ≤ 65536 → trailer_good bs ≡ true → s ≡ settings_of bs
    → first ≡ first_bad bs s.start 0 s.count → by_records first s ≡ log_of bs
unfolding log_of
log_by_records bs first s h g e f =
    ap (λ (n : ℕ). by_records n s) f ∙ ap (λ (x : Settings). by_records (first_bad bs x.start 0 x.count) x) e
    ∙ ap (λ (n : ℕ). by_records (first_bad bs (settings_of bs).start 0 n) (settings_of bs)) (count_is bs)
    ∙ sym (ap₂ (log_by bs) (le-ltb 65536 (length bs) h) g)

abbrev call_by : List ℕ → ℕ → Bool → Bool → Bool → Option Call
call_by bs i long kept there =
    cond long None (cond kept (cond there (played_by (read_of (record_at bs (settings_of bs).start i))) None) None)

pub call_too_long : (bs : List ℕ) (i : ℕ) → 65536 < length bs → None ≡ call_at bs i
unfolding call_at
call_too_long bs i h = sym (ap (λ (b : Bool). call_by bs i b (trailer_good bs) (ltb i (count_of bs))) (lt-ltb 65536 (length bs) h))

pub call_bad_trailer : (bs : List ℕ) (i : ℕ) → length bs ≤ 65536 → trailer_good bs ≡ false → None ≡ call_at bs i
unfolding call_at
call_bad_trailer bs i h g = sym (ap₂ (λ (a b : Bool). call_by bs i a b (ltb i (count_of bs))) (le-ltb 65536 (length bs) h) g)

pub call_none : (bs : List ℕ) (i : ℕ) (s : Settings) → length bs ≤ 65536 → trailer_good bs ≡ true → s ≡ settings_of bs → s.count ≤ i → None ≡ call_at bs i
unfolding call_at
call_none bs i s h g e l =
    let none : count_of bs ≤ i = subst (λ (n : ℕ). n ≤ i) (ap (λ (x : Settings). x.count) e ∙ count_is bs) l in
    sym (λ k. call_by bs i (le-ltb 65536 (length bs) h k) (g k) (le-ltb i (count_of bs) none k))

pub call_there : (bs : List ℕ) (i : ℕ) (s : Settings) → length bs ≤ 65536 → trailer_good bs ≡ true → s ≡ settings_of bs → i < s.count
    → played_by (read_of (record_at bs s.start i)) ≡ call_at bs i
unfolding call_at
call_there bs i s h g e l =
    let there : i < count_of bs = subst (λ (n : ℕ). i < n) (ap (λ (x : Settings). x.count) e ∙ count_is bs) l in
    ap (λ (x : Settings). played_by (read_of (record_at bs x.start i))) e
    ∙ sym (λ k. call_by bs i (le-ltb 65536 (length bs) h k) (g k) (lt-ltb i (count_of bs) there k))

-- ---- the writer

abbrev refusal_by : (sized many : Bool) → Result Unit Refusal
refusal_by sized many = cond sized (cond many (Err refusal.TooLong) (Ok tt)) (Err refusal.WrongRoom)

by_answer : (bs : List ℕ) (count copies threshold timeout : ℕ) (a : Result Unit Refusal) → trailer_answer bs count ≡ a
    → wrote a (trailer_after a (trailer_over bs count copies threshold timeout) bs) ≡ trailer_to bs count copies threshold timeout
unfolding trailer_to
by_answer bs count copies threshold timeout a e =
    sym (ap (λ (b : Result Unit Refusal). wrote b (trailer_after b (trailer_over bs count copies threshold timeout) bs)) e)

module _ (bs : List ℕ) (count copies threshold timeout : ℕ) where
  pub write_room : (length bs ≡ 24 → ⊥) → wrote (Err refusal.WrongRoom) bs ≡ trailer_to bs count copies threshold timeout
  write_room h = by_answer bs count copies threshold timeout (Err refusal.WrongRoom) (ap (λ (b : Bool). refusal_by b (ltb 682 count)) (ne_eqb (length bs) 24 h))

  pub write_many : length bs ≡ 24 → 682 < count → wrote (Err refusal.TooLong) bs ≡ trailer_to bs count copies threshold timeout
  write_many l h = by_answer bs count copies threshold timeout (Err refusal.TooLong) (ap₂ refusal_by (eq-eqb (length bs) 24 l) (lt-ltb 682 count h))

  pub write_done : (after : List ℕ) → length bs ≡ 24 → count ≤ 682 → after ≡ trailer_over bs count copies threshold timeout
      → wrote (Ok tt) after ≡ trailer_to bs count copies threshold timeout
  write_done after l h e =
      ap (wrote (Ok tt)) e ∙ by_answer bs count copies threshold timeout (Ok tt) (ap₂ refusal_by (eq-eqb (length bs) 24 l) (le-ltb 682 count h))

  pub over : written (trailer_table count copies threshold timeout) bs ≡ trailer_over bs count copies threshold timeout
  unfolding trailer_over
  over = refl
