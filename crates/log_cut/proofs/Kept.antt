-- What is kept: the records that are there and good, up to the first that is not, and no other number. Assumes nothing.
use Rattle.std.specs.Prelude.{Err, Ok, Result}
use mathlib.Core.Path.{◌≡◌, refl, sym, ap, ◌∙◌, subst}
use mathlib.Core.Bool.{Bool, true, false}
use mathlib.Core.List.{List}
use mathlib.Core.Logic.{◌⊎◌, inl, inr}
use Prim.Native.Nat.{ℕ, ◌+◌, ◌*◌, ◌/◌, ◌≤◌, ◌<◌}
use native.Mathlib.Omega.{arith}
use native.Mathlib.Nat.{mul-div-le, lt-mul-div-succ}
use lib.Dec.{ltb}
use lib.ListN.{length}
use borrow.Author.Tests.{ltb-true, ltb-false, eqb-true, eq-eqb}
use Rattle.log_record.specs.Records.{good}
use Rattle.log_whole.specs.declared.Settings.{Settings}
use Rattle.log_whole.specs.declared.Fault.{Fault}
use Rattle.log_whole.specs.declared.Fault.TheVariants as fault
use Rattle.log_whole.specs.Logs.{count_of, settings_of, trailer_good, record_at, first_bad, log_of}
use Rattle.log_whole.specs.Meaning.{Means}
use Rattle.log_whole.proofs.Accepted.{answer_means}
use Rattle.log_whole.proofs.First.{First, first_is}
use Rattle.log_whole.proofs.Laws.{count_is, records-within}
use Rattle.log_cut.specs.Cut.{kept_of, whole_by, whole}
use Rattle.log_cut.specs.Answers.{Keeps}

-- ---- how many records there are

pub both_ways : (b : Bool) → b ≡ true → b ≡ false → ⊥
both_ways b t f = let z : ◌≡◌ {A = ℕ} 0 1 = cc in omega arith

pub order : (a b : ℕ) → (a < b) ⊎ (b ≤ a)
order a b = by (ltb a b) refl
  where
    by : (t : Bool) → ltb a b ≡ t → (a < b) ⊎ (b ≤ a)
    by true e = inl (ltb-true a b e)
    by false e = inr (ltb-false a b e)

pub complete_fit : (n : ℕ) → 96 * (n / 96) ≤ n
complete_fit n = mul-div-le n 96

pub one_more_does_not : (n : ℕ) → n < 96 * (n / 96) + 96
one_more_does_not n = more n (n / 96) (lt-mul-div-succ n (omega arith))
  where
    more : (n q : ℕ) → n < 96 * (q + 1) → n < 96 * q + 96
    more n q h = omega arith

-- Records from byte 0 up to the first that is bad or incomplete.
pub keeps : (bs : List ℕ) → Keeps bs (kept_of bs)
unfolding kept_of
keeps bs = from (first_bad bs 0 0 (length bs / 96)) (first_is bs 0 0 (length bs / 96))
  where
    fewer : (f q n : ℕ) → f ≤ 0 + q → 96 * q ≤ n → 96 * f ≤ n
    fewer f q n h l = omega arith

    before : (f q n : ℕ) → n < 96 * q + 96 → 96 * f + 96 ≤ n → f < 0 + q
    before f q n h l = omega arith

    from : (f : ℕ) → First bs 0 0 (length bs / 96) f → Keeps bs f
    from f h = record {
      there = fewer f (length bs / 96) (length bs) h.high (complete_fit (length bs));
      goods = λ j l. h.before j (omega arith) l;
      next = λ l. h.itself (before f (length bs / 96) (length bs) (one_more_does_not (length bs)) l);
    }

-- No other number of records.
pub keeps_one : (bs : List ℕ) (m n : ℕ) → Keeps bs m → Keeps bs n → m ≡ n
keeps_one bs m n p q = by (order m n) (order n m)
  where
    less : (a b : ℕ) → a < b → Keeps bs a → Keeps bs b → ⊥
    less a b l x y = both_ways (good (record_at bs 0 a)) (y.goods a l) (x.next (behind a b (length bs) l y.there))
      where
        behind : (a b n : ℕ) → a < b → 96 * b ≤ n → 96 * a + 96 ≤ n
        behind a b n l h = omega arith

    by : (m < n) ⊎ (n ≤ m) → (n < m) ⊎ (m ≤ n) → m ≡ n
    by (inl l) r = absurd (less m n l p q)
    by (inr l) (inl k) = absurd (less n m k q p)
    by (inr l) (inr k) = omega arith

pub kept_is : (bs : List ℕ) (n : ℕ) → Keeps bs n → kept_of bs ≡ n
kept_is bs n h = keeps_one bs (kept_of bs) n (keeps bs) h

-- the first bad one of n records is the one before which all are good, if it is bad or there are no more
pub first-at : (bs : List ℕ) (n f : ℕ) → f ≤ n → ((j : ℕ) → j < f → good (record_at bs 0 j) ≡ true) → (f < n → good (record_at bs 0 f) ≡ false)
    → first_bad bs 0 0 n ≡ f
first-at bs n f h goods bad = by (first_bad bs 0 0 n) (first_is bs 0 0 n)
  where
    below : (a b : ℕ) → a < b → b ≤ n → a < 0 + n
    below a b l k = omega arith

    by : (g : ℕ) → First bs 0 0 n g → g ≡ f
    by g q = cases (order g f) (order f g)
      where
        cases : (g < f) ⊎ (f ≤ g) → (f < g) ⊎ (g ≤ f) → g ≡ f
        cases (inl l) r = absurd (both_ways (good (record_at bs 0 g)) (goods g l) (q.itself (below g f l h)))
        cases (inr l) (inl k) = absurd (both_ways (good (record_at bs 0 f)) (q.before f (omega arith) k) (bad (within f g n k q.high)))
          where
            within : (a b n : ℕ) → a < b → b ≤ 0 + n → a < n
            within a b n l h = omega arith
        cases (inr l) (inr k) = omega arith

-- ---- whole logs

pub record Whole (bs : List ℕ) : Type 0 where
  pub accepted : log_of bs ≡ Ok (settings_of bs)
  pub small : length bs ≤ 65536
  pub marked : trailer_good bs ≡ true
  pub sized : length bs ≡ 96 * count_of bs + 24
  pub first : (settings_of bs).start ≡ 0
  pub goods : (j : ℕ) → j < count_of bs → good (record_at bs 0 j) ≡ true

-- "A log that `linkreport` accepts, with no leading matter": what whole says.
pub whole_is : (bs : List ℕ) → whole bs ≡ true → Whole bs
unfolding whole
whole_is bs w = by (log_of bs) refl w
  where
    no : false ≡ true → ⊥
    no e = both_ways false e refl

    by : (l : Result Settings Fault) → log_of bs ≡ l → whole_by l ≡ true → Whole bs
    by (Err fault.TooLong) e h = absurd (no h)
    by (Err fault.BadTrailer) e h = absurd (no h)
    by (Err (fault.BadRecord n)) e h = absurd (no h)
    by (Ok s) e h =
        let m : Means bs (Ok s) = subst (Means bs) e (answer_means bs) in
        let zero_start : (settings_of bs).start ≡ 0 = ap (λ (x : Settings). x.start) (sym m.2) ∙ eqb-true s.start 0 h in
        record {
          accepted = e ∙ ap Ok m.2;
          small = m.0;
          marked = m.1;
          sized = from_start (settings_of bs).start (count_of bs) (length bs) zero_start (records-within bs m.1);
          first = zero_start;
          goods = λ j l.
              ap (λ (a : ℕ). good (record_at bs a j)) (sym (eqb-true s.start 0 h))
              ∙ m.3 j (subst (λ (n : ℕ). j < n) (sym (ap (λ (x : Settings). x.count) m.2 ∙ count_is bs)) l);
        }
      where
        from_start : (a k n : ℕ) → a ≡ 0 → a + 96 * k + 24 ≡ n → n ≡ 96 * k + 24
        from_start a k n z e = omega arith

pub accepted-whole : (bs : List ℕ) (s : Settings) → log_of bs ≡ Ok s → s.start ≡ 0 → whole bs ≡ true
unfolding whole
accepted-whole bs s e z = ap whole_by e ∙ eq-eqb s.start 0 z

-- Of a whole log every record is kept: the stop is the first byte of its trailer.
pub whole_keeps : (bs : List ℕ) → whole bs ≡ true → kept_of bs ≡ count_of bs
whole_keeps bs w =
    let h = whole_is bs w in
    kept_is bs (count_of bs) (record {
      there = room (count_of bs) (length bs) h.sized;
      goods = h.goods;
      next = λ l. absurd (short (count_of bs) (length bs) h.sized l);
    })
  where
    room : (k n : ℕ) → n ≡ 96 * k + 24 → 96 * k ≤ n
    room k n e = omega arith

    short : (k n : ℕ) → n ≡ 96 * k + 24 → 96 * k + 96 ≤ n → ⊥
    short k n e h = omega arith
