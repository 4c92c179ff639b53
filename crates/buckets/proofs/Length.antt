-- The bit length: the least k with v < 2 ^ k, and what `leading_zeros` leaves of the width. Assumes nothing.
use Rattle.std.proofs.Common.{◌≡◌, ℕ, zero, suc, ◌+◌, ◌-◌, ◌*◌, ◌^◌, ◌<◌, ◌≤◌, sym, refl, ap, ◌∙◌, subst, le_trans, le_refl, lt_of_lt_of_le, lt_of_le_of_lt, le_antisymm, lt_of_not-le, not-le_of_lt, arith, pow_mono}
use native.Mathlib.Nat.{two-pow-succ}
use lib.Bits.{bit_or, bit_and, or_lt, or_add_and, and_le_l, and_le_r}
use lib.Count.{count_leading_zeros, leading_length}
use lib.Ieee.Digits.{size-lt, size_reaches, size-le}
use Rattle.buckets.specs.Buckets.{bit_length}

pub length-holds : (v : ℕ) → v < 2 ^ bit_length v
unfolding bit_length
length-holds v = size-lt v

pub length-least : (v j : ℕ) → v < 2 ^ j → bit_length v ≤ j
unfolding bit_length
length-least v j h = size-le v j h

pub length_reaches : (v j : ℕ) → j < bit_length v → 2 ^ j ≤ v
unfolding bit_length
length_reaches v j h = size_reaches v j h

-- a number between 2 ^ j and 2 ^ (j + 1) has j + 1 digits
pub length-between : (v j : ℕ) → 2 ^ j ≤ v → v < 2 ^ suc j → bit_length v ≡ suc j
length-between v j lo hi = le_antisymm (length-least v (suc j) hi) (lt_of_not-le (λ (g : bit_length v ≤ j). not-le_of_lt (lt_of_lt_of_le (length-holds v) (pow_mono g)) lo))

-- the length is what the leading zeros leave of the width
pub length-leading : (k v : ℕ) → v < 2 ^ k → count_leading_zeros k v + bit_length v ≡ k
length-leading k v h = go (leading_length k v h)
  where
    shorter : (m j p : ℕ) → p + p ≤ 2 * v + 1 → v < p → ⊥
    shorter m j p a b = omega arith

    same : (m : ℕ) → v < 2 ^ m → 2 ^ m ≤ 2 * v + 1 → bit_length v ≡ m
    same zero lo hi = le_antisymm (length-least v zero lo) (omega arith)
    same (suc j) lo hi =
        le_antisymm (length-least v (suc j) lo)
        (lt_of_not-le (λ (g : bit_length v ≤ j).
        shorter (suc j) j (2 ^ j) (subst (λ (x : ℕ). x ≤ 2 * v + 1) (two-pow-succ j) hi) (lt_of_lt_of_le (length-holds v) (pow_mono g))))

    go : (m : ℕ) × (count_leading_zeros k v + m ≡ k) × (v < 2 ^ m) × (2 ^ m ≤ 2 * v + 1) → count_leading_zeros k v + bit_length v ≡ k
    go t = ap (λ (x : ℕ). count_leading_zeros k v + x) (same t.0 t.2 t.3) ∙ t.1

-- with bit 7 set a number is not smaller, has at least eight digits, and no more than it needs for both
or_left : (v w : ℕ) → v ≤ bit_or v w
or_left v w = less (bit_or v w) (bit_and v w) v w (or_add_and v w) (and_le_r v w)
  where
    less : (o a v w : ℕ) → o + a ≡ v + w → a ≤ w → v ≤ o
    less o a v w e h = omega arith

or_right : (v w : ℕ) → w ≤ bit_or v w
or_right v w = less (bit_or v w) (bit_and v w) v w (or_add_and v w) (and_le_l v w)
  where
    less : (o a v w : ℕ) → o + a ≡ v + w → a ≤ v → w ≤ o
    less o a v w e h = omega arith

pub length-with : (v : ℕ) → 8 ≤ bit_length (bit_or v 128)
length-with v = lt_of_not-le (λ (g : bit_length (bit_or v 128) ≤ 7). not-le_of_lt (lt_of_lt_of_le (length-holds (bit_or v 128)) (pow_mono g)) (or_right v 128))

-- so that eight digits less, its length is that of the number, eight digits less
pub length-either : (v : ℕ) → bit_length (bit_or v 128) - 8 ≡ bit_length v - 8
length-either v = le_antisymm most least
  where
    longer : bit_length v ≤ bit_length (bit_or v 128)
    longer = length-least v (bit_length (bit_or v 128)) (lt_of_le_of_lt (or_left v 128) (length-holds (bit_or v 128)))

    least : bit_length v - 8 ≤ bit_length (bit_or v 128) - 8
    least = omega (arith, longer)

    wide : (k : ℕ) → 8 ≤ k → 128 < 2 ^ k
    wide k h = lt_of_lt_of_le (below (2 ^ 8) refl) (pow_mono h)
      where
        below : (n : ℕ) → n ≡ 256 → 128 < n
        below n e = omega arith

    covers : bit_length v ≤ 8 + (bit_length v - 8)
    covers = omega arith

    most : bit_length (bit_or v 128) - 8 ≤ bit_length v - 8
    most =
        omega
        (arith, length-least (bit_or v 128) (8 + (bit_length v - 8)) (or_lt (8 + (bit_length v - 8)) v 128 (lt_of_lt_of_le (length-holds v) (pow_mono covers)) (wide (8 + (bit_length v - 8)) (omega arith))))
