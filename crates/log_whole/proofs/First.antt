-- What the first bad record is: every record before it is good, and it is bad or there is none. Assumes nothing.
use mathlib.Core.Path.{◌≡◌, refl, sym, ap, ◌∙◌}
use mathlib.Core.Bool.{Bool, true, false, cond}
use mathlib.Core.List.{List}
use mathlib.Core.Logic.{◌⊎◌, inl, inr}
use Prim.Native.Nat.{ℕ, zero, suc, ◌+◌, ◌≤◌, ◌<◌}
use native.Mathlib.Omega.{arith}
use native.Mathlib.Nat.{eq-or-lt_of_le}
use Rattle.log_record.specs.Records.{good}
use Rattle.log_whole.specs.Logs.{record_at, first_bad}

-- f is the first bad record from i on, or i + n
pub record First (bs : List ℕ) (start i n f : ℕ) : Type 0 where
  pub low : i ≤ f
  pub high : f ≤ i + n
  pub before : (j : ℕ) → i ≤ j → j < f → good (record_at bs start j) ≡ true
  pub itself : f < i + n → good (record_at bs start f) ≡ false

after-good : (bs : List ℕ) (start i n f : ℕ) → good (record_at bs start i) ≡ true → First bs start (i + 1) n f → First bs start i (suc n) f
after-good bs start i n f g h = record {
  low = sooner h.low;
  high = later h.high;
  before = λ j p q. at_or_after j (eq-or-lt_of_le p) q;
  itself = λ l. h.itself (back l);
}
  where
    sooner : i + 1 ≤ f → i ≤ f
    sooner p = omega arith

    later : f ≤ i + 1 + n → f ≤ i + suc n
    later p = omega arith

    back : f < i + suc n → f < i + 1 + n
    back p = omega arith

    next : {j : ℕ} → i < j → i + 1 ≤ j
    next l = omega arith

    at_or_after : (j : ℕ) → (i ≡ j) ⊎ (i < j) → j < f → good (record_at bs start j) ≡ true
    at_or_after j (inl e) q = ap (λ (k : ℕ). good (record_at bs start k)) (sym e) ∙ g
    at_or_after j (inr l) q = h.before j (next l) q

by-good : (bs : List ℕ) (start i n : ℕ) (b : Bool) → good (record_at bs start i) ≡ b → First bs start (i + 1) n (first_bad bs start (i + 1) n)
    → First bs start i (suc n) (cond b (first_bad bs start (i + 1) n) i)
by-good bs start i n true g h = after-good bs start i n (first_bad bs start (i + 1) n) g h
by-good bs start i n false g h = record { low = omega arith; high = omega arith; before = λ j p q. absurd (never j p q); itself = λ l. g }
  where
    never : (j : ℕ) → i ≤ j → j < i → ⊥
    never j p q = omega arith

pub first_is : (bs : List ℕ) (start i n : ℕ) → First bs start i n (first_bad bs start i n)
first_is bs start i zero = record { low = omega arith; high = omega arith; before = λ j p q. absurd (never j p q); itself = λ l. absurd (none l) }
  where
    never : (j : ℕ) → i ≤ j → j < i → ⊥
    never j p q = omega arith

    none : i < i + 0 → ⊥
    none l = omega arith
first_is bs start i (suc n) = by-good bs start i n (good (record_at bs start i)) refl (first_is bs start (i + 1) n)

-- where every record is good, there is no first bad one
pub none-bad : (bs : List ℕ) (start n : ℕ) → ((j : ℕ) → j < n → good (record_at bs start j) ≡ true) → first_bad bs start 0 n ≡ n
none-bad bs start n h = no_gap (first_bad bs start 0 n) (first_is bs start 0 n)
  where
    both_ways : (f : ℕ) → f < n → good (record_at bs start f) ≡ false → ⊥
    both_ways f l e =
        let t = h f l in
        let z : ◌≡◌ {A = ℕ} 0 1 = cc in
        omega arith

    by_lt : (f : ℕ) → (f ≡ 0 + n) ⊎ (f < 0 + n) → First bs start 0 n f → f ≡ n
    by_lt f (inl e) s = omega arith
    by_lt f (inr l) s = absurd (both_ways f (omega arith) (s.itself l))

    no_gap : (f : ℕ) → First bs start 0 n f → f ≡ n
    no_gap f s = by_lt f (eq-or-lt_of_le s.high) s
