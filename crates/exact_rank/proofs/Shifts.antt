-- The shift of a range: the bit length, less 8, not below 0.
-- Assumes nothing.
use Rattle.std.proofs.Common.{◌≡◌, ℕ, ◌+◌, ◌-◌, ◌*◌, ◌%◌, ◌^◌, ◌<◌, ◌≤◌, ◌⊎◌, sym, subst, inl, inr, mod-eq_of_lt, one-mul, arith, pow_pos, pow_mono, pow-add}
use lib.Pow.{pow-lt}
use lib.Count.{count_leading_zeros, leading_length}

abbrev Length : ℕ → ℕ → Type 0
Length zeros span = (m : ℕ) × (zeros + m ≡ 64) × (span < 2 ^ m) × (2 ^ m ≤ 2 * span + 1)

short : (zeros span : ℕ) → Length zeros span → 64 - zeros < 8 → span < 256 * 2 ^ 0
short zeros span t l = omega (arith, t.2, pow_mono {i = t.0} {j = 8} (omega (arith, t.1, l)))

halves : (s p : ℕ) → 0 < p → 256 * p ≤ 2 * s + 1 → p ≤ s
halves s p l h = omega (arith, l, h)

module _ (zeros span : ℕ) (t : Length zeros span) (l : 8 ≤ 64 - zeros) where
  whole : 2 ^ t.0 ≡ 256 * 2 ^ (64 - zeros - 8)
  whole = let e : t.0 ≡ 8 + (64 - zeros - 8) = omega (arith, t.1, l) in rw e (pow-add 2 8 (64 - zeros - 8))

  long : span < 256 * 2 ^ (64 - zeros - 8)
  long = rw whole at t.2

  reached : 2 ^ (64 - zeros - 8) ≤ span
  reached = halves span (2 ^ (64 - zeros - 8)) (pow_pos (64 - zeros - 8)) (rw whole at t.3)

pub shift_short : (span : ℕ) → span < 2 ^ 64 → 64 - count_leading_zeros 64 span < 8 → span < 256 * 2 ^ 0
shift_short span h l = short (count_leading_zeros 64 span) span (leading_length 64 span h) l

pub shift_long : (span : ℕ) → span < 2 ^ 64 → 8 ≤ 64 - count_leading_zeros 64 span → span < 256 * 2 ^ (64 - count_leading_zeros 64 span - 8)
shift_long span h l = long (count_leading_zeros 64 span) span (leading_length 64 span h) l

pub shift_reached : (span : ℕ) → span < 2 ^ 64 → 8 ≤ 64 - count_leading_zeros 64 span → 2 ^ (64 - count_leading_zeros 64 span - 8) ≤ span
shift_reached span h l = reached (count_leading_zeros 64 span) span (leading_length 64 span h) l

-- 1 << shift is the power
pub one_shifted : (shift : ℕ) → shift < 64 → (1 * 2 ^ shift) % 2 ^ 64 ≡ 2 ^ shift
one_shifted shift l = rw (one-mul (2 ^ shift)) (mod-eq_of_lt (pow-lt l))
