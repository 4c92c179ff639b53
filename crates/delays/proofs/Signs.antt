-- Sums of integers that are given by a sign and a magnitude. Assumes nothing.
use mathlib.Core.Path.{◌≡◌, refl, sym, ap, ◌∙◌}
use mathlib.Core.Bool.{Bool, true, false, not, ◌&&◌, beq, true≢false, false≢true}
use Prim.Native.Nat.{ℕ, zero, suc, ◌+◌, ◌-◌, ◌^◌, ◌≤◌, ◌<◌}
use native.Mathlib.Nat.{add-zero, le_of_lt}
use native.Mathlib.Omega.{arith}
use lib.IntN.{ℤ, pos, neg_ℤ, ◌+ℤ◌, +ℤ_comm, neg_ℤ-+ℤ, neg_ℤ-neg_ℤ}
use lib.Dec.{ltb}
use lib.Arith.{digits_div, digits_mod}
use borrow.Author.Tests.{le-ltb, lt-ltb, ltb-true, ltb-false}
use Rattle.floats.specs.Whole.{magnitude, signed}
use Rattle.delays.specs.Sums.{sum_from, sum_of}

-- ---- like signs
pub alike : (s : Bool) (a b : ℕ) → signed s a +ℤ signed s b ≡ signed s (a + b)
alike false a b = refl
alike true a b = sym (neg_ℤ-+ℤ (pos a) (pos b))

-- ---- unlike signs: the larger magnitude keeps its sign
difference : (a b : ℕ) → b ≤ a → pos a +ℤ neg_ℤ (pos b) ≡ pos (a - b)
difference a zero h = ap pos (add-zero a ∙ whole a)
  where
    whole : (a : ℕ) → a ≡ a - 0
    whole a = omega arith
difference a (suc b) h = rw (le-ltb a (suc b) h)

pub larger-first : (s : Bool) (a b : ℕ) → b ≤ a → signed s a +ℤ signed (not s) b ≡ signed s (a - b)
larger-first false a b h = difference a b h
larger-first true a b h = ap (λ (z : ℤ). neg_ℤ (pos a) +ℤ z) (sym (neg_ℤ-neg_ℤ (pos b))) ∙ sym (neg_ℤ-+ℤ (pos a) (neg_ℤ (pos b))) ∙ ap neg_ℤ (difference a b h)

pub larger-second : (s : Bool) (a b : ℕ) → a < b → signed s a +ℤ signed (not s) b ≡ signed (not s) (b - a)
larger-second false a b h = +ℤ_comm (pos a) (neg_ℤ (pos b)) ∙ larger-first true b a (le_of_lt h)
larger-second true a b h = +ℤ_comm (neg_ℤ (pos a)) (pos b) ∙ larger-first false b a (le_of_lt h)

-- ---- the sum that says a signed magnitude
pub sum_signed : (s : Bool) (n : ℕ) → sum_from s n ≡ sum_of (signed s n)
sum_signed false n = refl
sum_signed true zero = refl
sum_signed true (suc n) = refl

pub some_words : (s : Bool) (high low : ℕ) → low < 2 ^ 64 → (magnitude high low ≡ 0 → ⊥) → record { negative = s; high = high; low = low } ≡ sum_from s (magnitude high low)
some_words s high low l h =
    λ i. record { negative = sign s (magnitude high low) (above (magnitude high low) h) i; high = sym (digits_div high l) i; low = sym (digits_mod high l) i }
  where
    above : (n : ℕ) → (n ≡ 0 → ⊥) → 0 < n
    above n h = omega arith

    sign : (s : Bool) (n : ℕ) → 0 < n → s ≡ s && ltb 0 n
    sign true n h = sym (lt-ltb 0 n h)
    sign false n h = refl

-- ---- what `enlarged` and `lessened` hand on
pub carried : (high low more room : ℕ) → low < 2 ^ 64 → more < 2 ^ 64 → room ≡ 18446744073709551615 - low → room < more → magnitude (high + 1) (more - room - 1) ≡ magnitude high low + more
carried high low more room l m e h = omega arith

pub not_carried : (high low more : ℕ) → magnitude high (low + more) ≡ magnitude high low + more
not_carried high low more = omega arith

pub not_borrowed : (high low less : ℕ) → less ≤ low → magnitude high (low - less) ≡ magnitude high low - less
not_borrowed high low less h = omega arith

pub borrowed : (high low less : ℕ) → less < 2 ^ 64 → less ≤ magnitude high low → low < less → magnitude (high - 1) (18446744073709551615 - less + low + 1) ≡ magnitude high low - less
borrowed high low less l m h = omega arith

-- ---- the three ways through `added`
like : (s t : Bool) → beq s t ≡ true → s ≡ t
like true true h = refl
like true false h = absurd (false≢true h)
like false true h = absurd (false≢true h)
like false false h = refl

unlike : (s t : Bool) → beq s t ≡ false → t ≡ not s
unlike true true h = absurd (true≢false h)
unlike true false h = refl
unlike false true h = refl
unlike false false h = absurd (true≢false h)

module _ (s t : Bool) (a b : ℕ) where
  pub same_sign : beq s t ≡ true → sum_from s (a + b) ≡ sum_of (signed s a +ℤ signed t b)
  same_sign e = sum_signed s (a + b) ∙ ap sum_of (sym (alike s a b) ∙ ap (λ (x : Bool). signed s a +ℤ signed x b) (like s t e))

  pub keeps_sign : beq s t ≡ false → b ≤ a → sum_from s (a - b) ≡ sum_of (signed s a +ℤ signed t b)
  keeps_sign h l = sum_signed s (a - b) ∙ ap sum_of (sym (larger-first s a b l) ∙ ap (λ (x : Bool). signed s a +ℤ signed x b) (sym (unlike s t h)))

  pub takes_sign : beq s t ≡ false → a < b → sum_from t (b - a) ≡ sum_of (signed s a +ℤ signed t b)
  takes_sign h l =
      sum_signed t (b - a)
      ∙ ap (λ (x : Bool). sum_of (signed x (b - a))) (unlike s t h)
      ∙ ap sum_of (sym (larger-second s a b l) ∙ ap (λ (x : Bool). signed s a +ℤ signed x b) (sym (unlike s t h)))

-- ---- a magnitude is below 2 ^ 126 where its high word is below 2 ^ 62
pub high_bound : (high low : ℕ) → low < 2 ^ 64 → ltb (magnitude high low) (2 ^ 126) ≡ ltb high (2 ^ 62)
high_bound high low l = go (ltb high (2 ^ 62)) refl
  where
    under : (high low : ℕ) → low < 2 ^ 64 → high < 2 ^ 62 → magnitude high low < 2 ^ 126
    under high low l h = omega arith

    over : (high low : ℕ) → 2 ^ 62 ≤ high → 2 ^ 126 ≤ magnitude high low
    over high low h = omega arith

    go : (b : Bool) → ltb high (2 ^ 62) ≡ b → ltb (magnitude high low) (2 ^ 126) ≡ b
    go true e = lt-ltb (magnitude high low) (2 ^ 126) (under high low l (ltb-true high (2 ^ 62) e))
    go false e = le-ltb (magnitude high low) (2 ^ 126) (over high low (ltb-false high (2 ^ 62) e))
