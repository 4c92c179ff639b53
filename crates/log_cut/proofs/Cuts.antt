-- Cuts of a whole log, and what stands behind one. Bytes 2 and 3 of a good record are 0, and those of a trailer at the end of its records are not: its
-- distance, 24+96·count, is below 65,536. So a record is never taken for a trailer, nor a trailer for a record. Assumes nothing.
use mathlib.Core.Path.{◌≡◌, refl, sym, ap, ◌∙◌, subst}
use mathlib.Core.Bool.{Bool, true, false}
use mathlib.Core.List.{List, ◌++◌}
use Prim.Native.Nat.{ℕ, ◌+◌, ◌-◌, ◌*◌, ◌/◌, ◌%◌, ◌≤◌, ◌<◌}
use native.Mathlib.Omega.{arith}
use native.Mathlib.Nat.{div-add-mod}
use lib.ListN.{length, get_or, take, drop, length-append, get_or-append}
use lib.Seq.{length-take-le, take-append_seam, get_or-take, get_or-drop}
use Rattle.big_endian.specs.Numbers.{number_at}
use Rattle.log_record.specs.Records.{good}
use Rattle.log_rules.proofs.Theorem.{good_rules}
use Rattle.log_whole.specs.Logs.{count_of, record_at}
use Rattle.log_whole.proofs.Laws.{trailer_facts}
use Rattle.log_cut.specs.Cut.{kept_of, whole, dropped_of}
use Rattle.log_cut.proofs.Kept.{both_ways, complete_fit, one_more_does_not, kept_is, Whole, whole_is}
use Rattle.log_cut.proofs.Fresh.{record-before}
use Rattle.log_cut.proofs.Output.{taken, dropped_cut}

-- ---- bytes 2 and 3

from_0 : (j : ℕ) → 96 * j ≡ 0 + 96 * j
from_0 j = omega arith

unused_2 : (bs : List ℕ) (j : ℕ) → good (record_at bs 0 j) ≡ true → get_or bs (96 * j + 2) 0 ≡ 0
unused_2 bs j g =
    ap (λ (n : ℕ). get_or bs (n + 2) 0) (from_0 j) ∙ sym (get_or-take 96 (drop (0 + 96 * j) bs) 2 0 (omega arith) ∙ get_or-drop (0 + 96 * j) bs 2 0)
    ∙ (good_rules (record_at bs 0 j) g).empty 2 (omega arith) tt

unused_3 : (bs : List ℕ) (j : ℕ) → good (record_at bs 0 j) ≡ true → get_or bs (96 * j + 3) 0 ≡ 0
unused_3 bs j g =
    ap (λ (n : ℕ). get_or bs (n + 3) 0) (from_0 j) ∙ sym (get_or-take 96 (drop (0 + 96 * j) bs) 3 0 (omega arith) ∙ get_or-drop (0 + 96 * j) bs 3 0)
    ∙ (good_rules (record_at bs 0 j) g).empty 3 (omega arith) tt

-- four bytes whose last two are 0 are no trailer's distance
no_distance : (bs : List ℕ) (p k : ℕ) → get_or bs (p + 2) 0 ≡ 0 → get_or bs (p + 3) 0 ≡ 0 → k ≤ 682 → number_at 2 bs p ≡ 24 + 96 * k → ⊥
no_distance bs p k z y l e =
    never (get_or bs p 0 * 256 + get_or bs (p + 1) 0) (get_or bs (p + 2) 0) (get_or bs (p + 2 + 1) 0) k z (ap (λ (n : ℕ). get_or bs n 0) (three p) ∙ y) l e
  where
    three : (p : ℕ) → p + 2 + 1 ≡ p + 3
    three p = omega arith

    never : (x b c k : ℕ) → b ≡ 0 → c ≡ 0 → k ≤ 682 → x * 65536 + (b * 256 + c) ≡ 24 + 96 * k → ⊥
    never x b c k z y l e = omega arith

few_of : (bs : List ℕ) → Whole bs → count_of bs ≤ 682
few_of bs h = few (count_of bs) (length bs) h.sized h.small
  where
    few : (k n : ℕ) → n ≡ 96 * k + 24 → n ≤ 65536 → k ≤ 682
    few k n e l = omega arith

-- the distance of a whole log stands where its records end
distance_at : (bs : List ℕ) → Whole bs → number_at 2 bs (96 * count_of bs) ≡ 24 + 96 * count_of bs
distance_at bs h =
    ap (number_at 2 bs) (sym (ap (λ (n : ℕ). n - 24) h.sized ∙ before (count_of bs))) ∙ (trailer_facts bs h.marked).whole
  where
    before : (k : ℕ) → 96 * k + 24 - 24 ≡ 96 * k
    before k = omega arith

-- ---- cuts

module _ (bs : List ℕ) (m : ℕ) (log : Whole bs) (cut : m < length bs) (h : Whole (take m bs)) where
  abbrev said : ℕ
  said = count_of (take m bs)

  sized : m ≡ 96 * said + 24
  sized = sym (length-take-le m bs (omega arith)) ∙ h.sized

  inside : said < count_of bs
  inside = go m said (count_of bs) (length bs) sized log.sized cut
    where
      go : (m k n l : ℕ) → m ≡ 96 * k + 24 → l ≡ 96 * n + 24 → m < l → k < n
      go m k n l e f h = omega arith

  same : (i : ℕ) → i < 24 → get_or (take m bs) (96 * said + i) 0 ≡ get_or bs (96 * said + i) 0
  same i l = get_or-take m bs (96 * said + i) 0 (there m said i sized l)
    where
      there : (m k i : ℕ) → m ≡ 96 * k + 24 → i < 24 → 96 * k + i < m
      there m k i e l = omega arith

  not_both : ⊥
  not_both =
      no_distance (take m bs) (96 * said) said
      (same 2 (omega arith) ∙ unused_2 bs said (log.goods said inside))
      (same 3 (omega arith) ∙ unused_3 bs said (log.goods said inside))
      (few_of (take m bs) h)
      (distance_at (take m bs) h)

module _ (bs : List ℕ) (m : ℕ) (w : whole bs ≡ true) (cut : m < length bs) where
  log : Whole bs
  log = whole_is bs w

  short : length (take m bs) ≡ m
  short = length-take-le m bs (omega arith)

  -- A log that was cut is never taken for a whole one.
  pub cut_never_whole : whole (take m bs) ≡ false
  cut_never_whole = by (whole (take m bs)) refl
    where
      by : (b : Bool) → whole (take m bs) ≡ b → whole (take m bs) ≡ false
      by true e = absurd (not_both bs m log cut (whole_is (take m bs) e))
      by false e = e

  -- Every record that is still there as a whole is kept.
  pub cut_keeps : kept_of (take m bs) ≡ m / 96
  cut_keeps = kept_is (take m bs) (m / 96) (record {
    there = subst (λ (n : ℕ). 96 * (m / 96) ≤ n) (sym short) (complete_fit m);
    goods = λ j l.
        ap good (taken bs m j (fits j (m / 96) m l (complete_fit m)) (omega arith))
        ∙ log.goods j (inside j (m / 96) (count_of bs) m (length bs) l (complete_fit m) log.sized cut);
    next = λ l. absurd (more (m / 96) m (one_more_does_not m) (subst (λ (n : ℕ). 96 * (m / 96) + 96 ≤ n) short l));
  })
    where
      fits : (j q m : ℕ) → j < q → 96 * q ≤ m → 96 * j + 96 ≤ m
      fits j q m l h = omega arith

      inside : (j q n m l : ℕ) → j < q → 96 * q ≤ m → l ≡ 96 * n + 24 → m < l → j < n
      inside j q n m l a b e c = omega arith

      more : (q m : ℕ) → m < 96 * q + 96 → 96 * q + 96 ≤ m → ⊥
      more q m a b = omega arith

  -- What is dropped is what was left of the record, or of the trailer, in which the cut fell: nothing where it fell between two records.
  pub cut_drops : dropped_of (take m bs) ≡ m % 96
  cut_drops =
      dropped_cut (take m bs) cut_never_whole ∙ (λ i. short i - 96 * cut_keeps i) ∙ left m (m / 96) (m % 96) (div-add-mod m 96)
    where
      left : (m q r : ℕ) → 96 * q + r ≡ m → m - 96 * q ≡ r
      left m q r e = omega arith

-- ---- bytes behind a whole log

module _ (bs rest : List ℕ) (w : whole bs ≡ true) (some : 0 < length rest) where
  first : Whole bs
  first = whole_is bs w

  longer : length (bs ++ rest) ≡ length bs + length rest
  longer = length-append bs rest

  -- Two logs one after the other, or a log and any bytes, are no whole log.
  pub behind_never_whole : whole (bs ++ rest) ≡ false
  behind_never_whole = by (whole (bs ++ rest)) refl
    where
      more : (a b l : ℕ) → l ≡ a + b → 0 < b → a < l
      more a b l e h = omega arith

      never : whole (bs ++ rest) ≡ true → ⊥
      never e =
          both_ways (whole bs) w
          (ap whole (sym (take-append_seam bs rest))
          ∙ cut_never_whole (bs ++ rest) (length bs) e (more (length bs) (length rest) (length (bs ++ rest)) longer some))

      by : (b : Bool) → whole (bs ++ rest) ≡ b → whole (bs ++ rest) ≡ false
      by true e = absurd (never e)
      by false e = e

  -- The records of the first are kept and no more: its trailer is no record.
  pub behind_keeps : kept_of (bs ++ rest) ≡ count_of bs
  behind_keeps = kept_is (bs ++ rest) (count_of bs) (record {
    there = room (count_of bs) (length bs) (length rest) (length (bs ++ rest)) first.sized longer;
    goods = λ j l. ap good (record-before bs rest j (within j (count_of bs) (length bs) l first.sized)) ∙ first.goods j l;
    next = λ l. by (good (record_at (bs ++ rest) 0 (count_of bs))) refl;
  })
    where
      room : (k n r l : ℕ) → n ≡ 96 * k + 24 → l ≡ n + r → 96 * k ≤ l
      room k n r l e f = omega arith

      within : (j k n : ℕ) → j < k → n ≡ 96 * k + 24 → 96 * j + 96 ≤ n
      within j k n l e = omega arith

      same : (i : ℕ) → i < 24 → get_or (bs ++ rest) (96 * count_of bs + i) 0 ≡ get_or bs (96 * count_of bs + i) 0
      same i l = get_or-append bs rest 0 (96 * count_of bs + i) (there (count_of bs) (length bs) i first.sized l)
        where
          there : (k n i : ℕ) → n ≡ 96 * k + 24 → i < 24 → 96 * k + i < n
          there k n i e l = omega arith

      never : good (record_at (bs ++ rest) 0 (count_of bs)) ≡ true → ⊥
      never g =
          no_distance bs (96 * count_of bs) (count_of bs)
          (sym (same 2 (omega arith)) ∙ unused_2 (bs ++ rest) (count_of bs) g)
          (sym (same 3 (omega arith)) ∙ unused_3 (bs ++ rest) (count_of bs) g)
          (few_of bs first)
          (distance_at bs first)

      by : (b : Bool) → good (record_at (bs ++ rest) 0 (count_of bs)) ≡ b → good (record_at (bs ++ rest) 0 (count_of bs)) ≡ false
      by true e = absurd (never e)
      by false e = e

  -- Its trailer and all that is behind it are dropped.
  pub behind_drops : dropped_of (bs ++ rest) ≡ 24 + length rest
  behind_drops =
      dropped_cut (bs ++ rest) behind_never_whole ∙ (λ i. longer i - 96 * behind_keeps i)
      ∙ left (length bs) (length rest) (count_of bs) first.sized
    where
      left : (n r k : ℕ) → n ≡ 96 * k + 24 → n + r - 96 * k ≡ 24 + r
      left n r k e = omega arith
