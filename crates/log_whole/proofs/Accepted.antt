-- What each answer to a log means. Assumes nothing.
use Rattle.std.specs.Prelude.{Some, Ok}
use mathlib.Core.Path.{◌≡◌, refl, sym, ap, ap₂, ◌∙◌, subst}
use mathlib.Core.Bool.{Bool, true, false, cond}
use mathlib.Core.List.{List}
use Prim.Native.Nat.{ℕ, ◌+◌, ◌*◌, ◌≤◌, ◌<◌}
use native.Mathlib.Omega.{arith}
use lib.Dec.{eqb, ltb}
use lib.ListN.{length, take, drop, length-take, length-drop}
use borrow.Author.Tests.{ltb-true, ltb-false, eqb-true, eqb-false, eq-eqb}
use Rattle.record_parts.specs.declared.Entry.{Entry}
use Rattle.record_parts.specs.Parts.{call_of}
use Rattle.log_record.specs.Records.{record_of, entry_of, good, read_of}
use Rattle.log_record.specs.Records as records
use Rattle.log_record.proofs.Good.{good_is_written}
use Rattle.log_whole.specs.declared.Settings.{Settings}
use Rattle.log_whole.specs.Logs.{most_bytes, count_of, settings_of, trailer_good, record_at, answer, records_number, number_by, first_of, log_of, played_by, call_at}
use Rattle.log_whole.specs.Meaning.{Means}
use Rattle.log_whole.proofs.Laws.{count_is, one_within, call_there}
use Rattle.log_whole.proofs.First.{First, first_is}

module _ (bs : List ℕ) (small : length bs ≤ 65536) (kept : trailer_good bs ≡ true) where
  abbrev found : ℕ
  found = first_of bs

  facts : First bs (settings_of bs).start 0 (count_of bs) found
  facts = first_is bs (settings_of bs).start 0 (count_of bs)

  by-found : (b : Bool) → eqb found (settings_of bs).count ≡ b → Means bs (answer (cond b 0 8) found (settings_of bs))
  by-found true e = (
    small,
    kept,
    refl,
    λ j l. facts.before j (omega arith) (subst (λ (n : ℕ). j < n) (sym (eqb-true found (settings_of bs).count e)) l),
  )
  by-found false e = (small, kept, below, facts.itself (wide found (count_of bs) below), λ j l. facts.before j (omega arith) l)
    where
      wide : (f n : ℕ) → f < n → f < 0 + n
      wide f n h = omega arith

      below : found < count_of bs
      below = strict found (count_of bs) facts.high (λ q. eqb-false found (settings_of bs).count e (q ∙ sym (count_is bs)))
        where
          strict : (f n : ℕ) → f ≤ 0 + n → (f ≡ n → ⊥) → f < n
          strict f n h q = omega arith

-- Each answer is right.
pub answer_means : (bs : List ℕ) → Means bs (log_of bs)
unfolding log_of
answer_means bs = by-long (ltb most_bytes (length bs)) refl
  where
    by_trailer : length bs ≤ 65536 → (b : Bool) → trailer_good bs ≡ b
        → Means bs (answer (number_by false b (records_number (first_of bs) (settings_of bs).count)) (first_of bs) (settings_of bs))
    by_trailer h true e = by-found bs h e (eqb (first_of bs) (settings_of bs).count) refl
    by_trailer h false e = (h, e)

    by-long : (b : Bool) → ltb most_bytes (length bs) ≡ b
        → Means bs (answer (number_by b (trailer_good bs) (records_number (first_of bs) (settings_of bs).count)) (first_of bs) (settings_of bs))
    by-long true e = ltb-true 65536 (length bs) e
    by-long false e = by_trailer (ltb-false 65536 (length bs) e) (trailer_good bs) refl

good-read : (r : List ℕ) → length r ≡ 96 → good r ≡ true → read_of r ≡ Ok (entry_of r)
unfolding read_of
good-read r l g = ap₂ (λ (x y : Bool). records.answer x y (entry_of r)) (eq-eqb (length r) 96 l) g

-- Every record of an accepted log is the record of an entry, and makes the call of it.
pub accepted_decodes : (bs : List ℕ) (s : Settings) (i : ℕ) → log_of bs ≡ Ok s → i < s.count
    → (e : Entry) × (call_at bs i ≡ Some (call_of e)) × (record_at bs s.start i ≡ record_of e)
accepted_decodes bs s i e l =
    let m : Means bs (Ok s) = subst (Means bs) e (answer_means bs) in
    let r : List ℕ = record_at bs s.start i in
    let g : good (record_at bs s.start i) ≡ true = m.3 i l in
    let room : s.start + 96 * i + 96 ≤ length bs = one_within bs s i m.1 m.2 l in (
      entry_of (record_at bs s.start i),
      sym (call_there bs i s m.0 m.1 m.2 l) ∙ ap played_by (good-read (record_at bs s.start i) (part bs (s.start + 96 * i) room) g),
      good_is_written (record_at bs s.start i) g,
    )
  where
    part : (l : List ℕ) (n : ℕ) → n + 96 ≤ length l → length (take 96 (drop n l)) ≡ 96
    part l n h = simp (length-take, length-drop) (omega arith)
