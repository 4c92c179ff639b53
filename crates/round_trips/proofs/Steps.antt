-- What the proofs cite: on each way, what is answered is what the definition says. Assumes nothing.
use mathlib.Core.Path.{◌≡◌, refl, sym, ap, ◌∙◌}
use mathlib.Core.Bool.{Bool, true, false}
use Prim.Native.Nat.{ℕ, zero, suc, ◌+◌, ◌-◌, ◌^◌, ◌≤◌, ◌<◌}
use native.Mathlib.Omega.{arith}
use lib.IntN.{pos, neg_ℤ, ◌+ℤ◌, +ℤ_comm}
use lib.Signed.{lt_z}
use lib.Dec.{ltb}
use lib.Arith.{digits_div, digits_mod}
use borrow.Author.Tests.{le-ltb}
use Rattle.floats.specs.Whole.{magnitude, signed}
use Rattle.delays.specs.declared.Sum.{Sum}
use Rattle.delays.specs.Sums.{sum_from, sum_of, total_of}
use Rattle.delays.proofs.Signs.{larger-first, sum_signed, some_words, carried, not_carried, not_borrowed, borrowed}

-- ---- `farther`
words : (high low : ℕ) → low < 2 ^ 64 → record { negative = false; high = high; low = low } ≡ sum_of (pos (magnitude high low))
words high low l = λ i. record { negative = false; high = sym (digits_div high l) i; low = sym (digits_mod high l) i }

pub fits_low : (high low ns : ℕ) → low < 2 ^ 64 → ns ≤ 18446744073709551615 - low → record { negative = false; high = high; low = low + ns } ≡ sum_of (pos (magnitude high low + ns))
fits_low high low ns l h = words high (low + ns) (small low ns l h) ∙ ap (λ (n : ℕ). sum_of (pos n)) (not_carried high low ns)
  where
    small : (low ns : ℕ) → low < 2 ^ 64 → ns ≤ 18446744073709551615 - low → low + ns < 2 ^ 64
    small low ns l h = omega arith

pub carries : (high low ns : ℕ) → low < 2 ^ 64 → ns < 2 ^ 64 → 18446744073709551615 - low < ns
    → record { negative = false; high = high + 1; low = ns - (18446744073709551615 - low) - 1 } ≡ sum_of (pos (magnitude high low + ns))
carries high low ns l m h = words (high + 1) _ (small low ns l m h) ∙ ap (λ (n : ℕ). sum_of (pos n)) (carried high low ns _ l m refl h)
  where
    small : (low ns : ℕ) → low < 2 ^ 64 → ns < 2 ^ 64 → 18446744073709551615 - low < ns → ns - (18446744073709551615 - low) - 1 < 2 ^ 64
    small low ns l m h = omega arith

-- ---- `nearer`: a negative sum of magnitude m
-- the round trip is at least as large
turns : (m ns : ℕ) → m ≤ ns → sum_of (pos (ns - m)) ≡ sum_of (signed true m +ℤ pos ns)
turns m ns h = ap sum_of (sym (+ℤ_comm (neg_ℤ (pos m)) (pos ns) ∙ larger-first false ns m h))

-- the sum is larger
stays : (m ns : ℕ) → ns < m → sum_from true (m - ns) ≡ sum_of (signed true m +ℤ pos ns)
stays m ns h = sum_signed true (m - ns) ∙ ap sum_of (sym (larger-first true m ns (at_most m ns h)))
  where
    at_most : (m ns : ℕ) → ns < m → ns ≤ m
    at_most m ns h = omega arith

pub small_turns : (low ns : ℕ) → ns < 2 ^ 64 → low ≤ ns → record { negative = false; high = 0; low = ns - low } ≡ sum_of (signed true (magnitude 0 low) +ℤ pos ns)
small_turns low ns l h =
    words 0 (ns - low) (small low ns l)
    ∙ ap (λ (n : ℕ). sum_of (pos n)) (difference low ns)
    ∙ turns (magnitude 0 low) ns (within low ns h)
  where
    small : (low ns : ℕ) → ns < 2 ^ 64 → ns - low < 2 ^ 64
    small low ns l = omega arith

    difference : (low ns : ℕ) → magnitude 0 (ns - low) ≡ ns - magnitude 0 low
    difference low ns = omega arith

    within : (low ns : ℕ) → low ≤ ns → magnitude 0 low ≤ ns
    within low ns h = omega arith

pub low_stays : (high low ns : ℕ) → low < 2 ^ 64 → ns ≤ low → ns < magnitude high low → record { negative = true; high = high; low = low - ns } ≡ sum_of (signed true (magnitude high low) +ℤ pos ns)
low_stays high low ns l h m =
    some_words true high (low - ns) (small low ns l) (λ e. some high low ns h m e)
    ∙ ap (sum_from true) (not_borrowed high low ns h)
    ∙ stays (magnitude high low) ns m
  where
    small : (low ns : ℕ) → low < 2 ^ 64 → low - ns < 2 ^ 64
    small low ns l = omega arith

    some : (high low ns : ℕ) → ns ≤ low → ns < magnitude high low → magnitude high (low - ns) ≡ 0 → ⊥
    some high low ns h m e = omega arith

pub small_stays : (low ns : ℕ) → low < 2 ^ 64 → ns < low → record { negative = true; high = 0; low = low - ns } ≡ sum_of (signed true (magnitude 0 low) +ℤ pos ns)
small_stays low ns l h = low_stays 0 low ns l (at_most low ns h) (within low ns h)
  where
    at_most : (low ns : ℕ) → ns < low → ns ≤ low
    at_most low ns h = omega arith

    within : (low ns : ℕ) → ns < low → ns < magnitude 0 low
    within low ns h = omega arith

pub wide : (high low ns : ℕ) → ns < 2 ^ 64 → (high ≡ 0 → ⊥) → ns < magnitude high low
wide high low ns l h = omega arith

pub borrows : (high low ns : ℕ) → ns < 2 ^ 64 → (high ≡ 0 → ⊥) → low < ns
    → record { negative = true; high = high - 1; low = 18446744073709551615 - ns + low + 1 } ≡ sum_of (signed true (magnitude high low) +ℤ pos ns)
borrows high low ns l n h =
    some_words true (high - 1) (18446744073709551615 - ns + low + 1) (small low ns l h) (λ e. some (high - 1) low ns e)
    ∙ ap (sum_from true) (borrowed high low ns l (at_most (magnitude high low) ns (wide high low ns l n)) h)
    ∙ stays (magnitude high low) ns (wide high low ns l n)
  where
    small : (low ns : ℕ) → ns < 2 ^ 64 → low < ns → 18446744073709551615 - ns + low + 1 < 2 ^ 64
    small low ns l h = omega arith

    some : (high low ns : ℕ) → magnitude high (18446744073709551615 - ns + low + 1) ≡ 0 → ⊥
    some high low ns e = omega arith

    at_most : (m ns : ℕ) → ns < m → ns ≤ m
    at_most m ns h = omega arith

-- ---- `added`
pub is_nearer : (s : Sum) (ns : ℕ) (r : Sum) → s.negative ≡ true → r ≡ sum_of (signed true (magnitude s.high s.low) +ℤ pos ns) → r ≡ sum_of (total_of s +ℤ pos ns)
is_nearer s ns r h e = e ∙ ap (λ (b : Bool). sum_of (signed b (magnitude s.high s.low) +ℤ pos ns)) (sym h)

pub is_farther : (s : Sum) (ns : ℕ) (r : Sum) → s.negative ≡ false → r ≡ sum_of (pos (magnitude s.high s.low + ns)) → r ≡ sum_of (total_of s +ℤ pos ns)
is_farther s ns r h e = e ∙ ap (λ (b : Bool). sum_of (signed b (magnitude s.high s.low) +ℤ pos ns)) (sym h)

-- ---- `under` and `over`: a sample of sign s and magnitude m
module _ (s : Bool) (m ns : ℕ) where
  pub none-under : s ≡ true → false ≡ lt_z (pos ns) (signed s m)
  none-under h = sym (ap (λ (b : Bool). lt_z (pos ns) (signed b m)) h ∙ never m)
    where
      least : (n : ℕ) → 0 ≤ n
      least n = omega arith

      never : (m : ℕ) → lt_z (pos ns) (signed true m) ≡ false
      never zero = le-ltb ns 0 (least ns)
      never (suc m) = refl

  pub plain-under : s ≡ false → ltb ns m ≡ lt_z (pos ns) (signed s m)
  plain-under h = sym (ap (λ (b : Bool). lt_z (pos ns) (signed b m)) h)

  pub all_over : s ≡ true → 0 < m → true ≡ lt_z (signed s m) (pos ns)
  all_over h l = sym (ap (λ (b : Bool). lt_z (signed b m) (pos ns)) h ∙ always m l)
    where
      none : 0 < 0 → ⊥
      none h = omega arith

      always : (m : ℕ) → 0 < m → lt_z (signed true m) (pos ns) ≡ true
      always zero l = absurd (none l)
      always (suc m) l = refl

  pub zero_over : s ≡ true → m ≤ 0 → ltb 0 ns ≡ lt_z (signed s m) (pos ns)
  zero_over h l = sym (ap (λ (b : Bool). lt_z (signed b m) (pos ns)) h ∙ ap (λ (k : ℕ). lt_z (signed true k) (pos ns)) (nothing m l))
    where
      nothing : (m : ℕ) → m ≤ 0 → m ≡ 0
      nothing m l = omega arith

  pub plain_over : s ≡ false → ltb m ns ≡ lt_z (signed s m) (pos ns)
  plain_over h = sym (ap (λ (b : Bool). lt_z (signed b m) (pos ns)) h)
