-- The counts of the digits: one sample more, and what their sums are.
-- Assumes nothing.
use Rattle.std.proofs.Common.{◌≡◌, ℕ, zero, suc, ◌+◌, ◌-◌, ◌*◌, ◌/◌, ◌%◌, ◌^◌, ◌<◌, ◌≤◌, List, length, get_or, take, set, ap, ◌∙◌, ⊎_elim, add-zero, mul-le-mul_right, div-lt_iff_lt-mul, add-mul, eq-or-lt_of_le, one-mul, div-mul-le_self, add-one, arith, get_or-set_other, get_or-set_same, pow_pos}
use native.Mathlib.Nat.{lt-div-mul-add}
use Rattle.sample_passes.specs.Keys.{shifted}
use Rattle.sample_passes.specs.Counting.{below}
use Rattle.sample_passes.specs.Passes.{capped, edge, Counted, sum_to}
use Rattle.sample_passes.proofs.Counting.{below-take_lt, below-take_ge, below-take-most, lt_or_le}

cut_le : (low high p x : ℕ) → low + p ≤ x → capped (low + p) (high + 1) ≤ x
cut_le low high p x l = omega (arith, l)

cut_lt : (low high p x : ℕ) → x < low + p → x ≤ high → x < capped (low + p) (high + 1)
cut_lt low high p x l m = omega (arith, l, m)

cut_outside_low : (low high p x : ℕ) → low ≤ high → x < low → x < capped (low + p) (high + 1)
cut_outside_low low high p x o l = omega (arith, o, l)

cut_outside_high : (low high p x : ℕ) → high < x → capped (low + p) (high + 1) ≤ x
cut_outside_high low high p x l = omega (arith, l)

pub next-digit : (d w : ℕ) → (d + 1) * w ≡ d * w + w
next-digit d w = add-mul d 1 w ∙ ap (λ (n : ℕ). d * w + n) (one-mul w)

module _ (key : ℕ → ℕ) (xs : List ℕ) (low high w : ℕ) where
  pub counted_none : (counts : List ℕ) → ((d : ℕ) → d < 256 → get_or counts d 0 ≡ 0) → Counted key (take 0 xs) low high w counts
  unfolding below
  counted_none counts h d l = omega (arith, h d l)

  module _ (i : ℕ) (inside : i < length xs) (x : ℕ) (is : x ≡ key (get_or xs i 0)) where
    up : (k : ℕ) → x < k → below key k (take (i + 1) xs) ≡ below key k (take i xs) + 1
    up k l = below-take_lt key k xs i inside (omega (arith, l, is))

    stay : (k : ℕ) → k ≤ x → below key k (take (i + 1) xs) ≡ below key k (take i xs)
    stay k l = below-take_ge key k xs i inside (omega (arith, l, is))

    pub counted-low : (counts : List ℕ) → low ≤ high → x < low → Counted key (take i xs) low high w counts
        → Counted key (take (i + 1) xs) low high w counts
    counted-low counts o l h d m =
        omega (
          arith,
          h d m,
          up (edge low high w d) (cut_outside_low low high (d * w) x o l),
          up (edge low high w (d + 1)) (cut_outside_low low high ((d + 1) * w) x o l),
        )

    pub counted-high : (counts : List ℕ) → high < x → Counted key (take i xs) low high w counts
        → Counted key (take (i + 1) xs) low high w counts
    counted-high counts l h d m =
        omega (
          arith,
          h d m,
          stay (edge low high w d) (cut_outside_high low high (d * w) x l),
          stay (edge low high w (d + 1)) (cut_outside_high low high ((d + 1) * w) x l),
        )

    module _ (positive : 0 < w) (from : low ≤ x) (to : x ≤ high) where
      digit_low : (x - low) / w * w ≤ x - low
      digit_low = div-mul-le_self (x - low) w

      digit-high : x - low < (x - low) / w * w + w
      digit-high = lt-div-mul-add positive

      at-digit : (c q : ℕ) → q ≡ (x - low) / w
          → c + below key (edge low high w q) (take i xs) ≡ below key (edge low high w (q + 1)) (take i xs)
          → c + 1 + below key (edge low high w q) (take (i + 1) xs) ≡ below key (edge low high w (q + 1)) (take (i + 1) xs)
      at-digit c q e h =
          let start : low + q * w ≤ x = rw e (omega (arith, digit_low, from)) in
          let end : x < low + (q + 1) * w = rw (next-digit q w, e) (omega (arith, digit-high, from)) in
          omega (
            arith,
            h,
            stay (edge low high w q) (cut_le low high (q * w) x start),
            up (edge low high w (q + 1)) (cut_lt low high ((q + 1) * w) x end to),
          )

      before-digit : (c d : ℕ) → d < (x - low) / w
          → c + below key (edge low high w d) (take i xs) ≡ below key (edge low high w (d + 1)) (take i xs)
          → c + below key (edge low high w d) (take (i + 1) xs) ≡ below key (edge low high w (d + 1)) (take (i + 1) xs)
      before-digit c d l h =
          let end : (d + 1) * w ≤ (x - low) / w * w = mul-le-mul_right w (omega (arith, l)) in
          let start : d * w ≤ (d + 1) * w = omega (arith, next-digit d w) in
          omega (
            arith,
            h,
            stay (edge low high w d) (cut_le low high (d * w) x (omega (arith, start, end, digit_low, from))),
            stay (edge low high w (d + 1)) (cut_le low high ((d + 1) * w) x (omega (arith, end, digit_low, from))),
          )

      past-digit : (c d : ℕ) → (x - low) / w < d
          → c + below key (edge low high w d) (take i xs) ≡ below key (edge low high w (d + 1)) (take i xs)
          → c + below key (edge low high w d) (take (i + 1) xs) ≡ below key (edge low high w (d + 1)) (take (i + 1) xs)
      past-digit c d l h =
          let start : ((x - low) / w + 1) * w ≤ d * w = mul-le-mul_right w (omega (arith, l)) in
          let top : x < low + d * w = omega (arith, start, next-digit ((x - low) / w) w, digit-high, from) in
          omega (
            arith,
            h,
            up (edge low high w d) (cut_lt low high (d * w) x top to),
            up (edge low high w (d + 1)) (cut_lt low high ((d + 1) * w) x (omega (arith, top, next-digit d w)) to),
          )

      pub counted-digit : (counts : List ℕ) (q : ℕ) → q ≡ (x - low) / w → q < length counts → Counted key (take i xs) low high w counts
          → Counted key (take (i + 1) xs) low high w (set counts q (get_or counts q 0 + 1))
      counted-digit counts q e fits h d m =
          let same : (n : ℕ) → (d ≡ q → ⊥) → get_or (set counts q n) d 0 ≡ get_or counts d 0 = (λ n g. get_or-set_other counts q d n 0 g) in
          ⊎_elim
          (λ l. rw (same (get_or counts q 0 + 1) (λ g. omega (arith, g, l)))
          (before-digit (get_or counts d 0) d (omega (arith, l, e)) (h d m)))
          (λ l.
          ⊎_elim
          (λ g. rw (← g, get_or-set_same counts q (get_or counts q 0 + 1) 0 fits) (at-digit (get_or counts q 0) q e (h q (omega (arith, m, g)))))
          (λ g. rw (same (get_or counts q 0 + 1) (λ z. omega (arith, g, z)))
          (past-digit (get_or counts d 0) d (omega (arith, g, e)) (h d m)))
          (eq-or-lt_of_le l))
          (lt_or_le d q)

pub sum_more : (counts : List ℕ) (n : ℕ) → sum_to counts (n + 1) ≡ sum_to counts n + get_or counts n 0
unfolding sum_to
sum_more counts n = rw (add-one n)

pub sum_grows : (counts : List ℕ) (m n : ℕ) → sum_to counts m ≤ sum_to counts (m + n)
sum_grows counts m zero = rw (add-zero m) (omega arith)
sum_grows counts m (suc n) = omega (arith, sum_grows counts m n, sum_more counts (m + n), ap (sum_to counts) (next m n))
  where
    next : (a b : ℕ) → a + suc b ≡ a + b + 1
    next a b = omega arith

edge-first : (low high w : ℕ) → low ≤ high → edge low high w 0 ≡ low
edge-first low high w l = omega (arith, l)

edge-last : (low high w : ℕ) → high - low < 256 * w → edge low high w 256 ≡ high + 1
edge-last low high w l = omega (arith, l)

module _ (key : ℕ → ℕ) (xs : List ℕ) (low high w : ℕ) (counts : List ℕ) (counted : Counted key xs low high w counts) (ordered : low ≤ high) where
  -- the digits before d have the keys from low up to its edge
  pub sum_counted : (d : ℕ) → d ≤ 256 → sum_to counts d + below key low xs ≡ below key (edge low high w d) xs
  unfolding sum_to
  sum_counted zero l = rw (edge-first low high w ordered) (omega arith)
  sum_counted (suc d) l =
      omega (arith, sum_counted d (omega (arith, l)), rw (add-one d) at (counted d (omega (arith, l))))

  pub sum_all : high - low < 256 * w → sum_to counts 256 + below key low xs ≡ below key (high + 1) xs
  sum_all l = rw (← (edge-last low high w l)) (sum_counted 256 (omega arith))

pub digit-small : (d shift : ℕ) → d < 256 * 2 ^ shift → d / 2 ^ shift < 256
digit-small d shift l = (div-lt_iff_lt-mul (pow_pos shift)).1 l

-- one turn of the loop of `digits`, whose distance past low goes round at 2^64
module _ (bias : ℕ) (xs : List ℕ) (low high w : ℕ) (ordered : low ≤ high) (word : high < 2 ^ 64) (i : ℕ) (inside : i < length xs) (d : ℕ) (small : d < 2 ^ 64)
    (is : (d + low) % 2 ^ 64 ≡ shifted bias (get_or xs i 0)) (counts : List ℕ) (counted : Counted (shifted bias) (take i xs) low high w counts) where
  pub digit-counted : d ≤ high - low → 0 < w → d / w < length counts
      → Counted (shifted bias) (take (i + 1) xs) low high w (set counts (d / w) (get_or counts (d / w) 0 + 1))
  digit-counted l positive fits =
      counted-digit (shifted bias) xs low high w i inside (low + d) (omega (arith, is, l, ordered, word)) positive
      (omega arith) (omega (arith, l, ordered)) counts (d / w) (ap (λ (n : ℕ). n / w) (omega arith)) fits counted

  pub digit_skipped : high - low < d → Counted (shifted bias) (take (i + 1) xs) low high w counts
  digit_skipped l =
      ⊎_elim
      (λ g. counted-high (shifted bias) xs low high w i inside (low + d) (omega (arith, is, g)) counts (omega (arith, l, ordered)) counted)
      (λ g. counted-low (shifted bias) xs low high w i inside (low + d - 2 ^ 64) (omega (arith, is, g, small, ordered, word)) counts ordered
      (omega (arith, g, small, ordered, word)) counted)
      (lt_or_le (d + low) (2 ^ 64))

-- a digit has no more keys than there are samples
pub digit-most : (key : ℕ → ℕ) (xs : List ℕ) (i low high w : ℕ) (counts : List ℕ) → Counted key (take i xs) low high w counts
    → (q : ℕ) → q < 256 → get_or counts q 0 ≤ i
digit-most key xs i low high w counts h q l =
    omega (arith, h q l, below-take-most key (edge low high w (q + 1)) xs i)
