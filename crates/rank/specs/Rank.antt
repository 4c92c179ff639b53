-- The rank of a percentile (document 01, "Estimates and percentiles"): p / 100 rounded, times (count - 1) as f64, rounded half away from zero;
-- NaN and negatives 0; at most count - 1. Assumes nothing.
use Rattle.std.specs.Prelude.{◌≡◌, ℕ, ◌-◌, ◌*◌, ◌<◌, ◌≤◌, min, true, false, pos, refl, Float}
use Rattle.std.proofs.Common.{arith}
use Rattle.std.specs.Float.{nan, inf, fin, binary64}
use Rattle.std.specs.Float.Ieee.{up, down, mul, div, of_int}
use Rattle.floats.specs.Half.{half_up, round_to}

-- p / 100 and its product with count - 1, each rounded to an f64
abbrev pub position : Float → ℕ → Float
position p count = mul binary64 (div binary64 p (of_int binary64 (pos 100))) (of_int binary64 (pos (count - 1)))

-- its nearest whole number from 0 to count - 1, a half away from zero
abbrev pub rank_of : Float → ℕ → ℕ
rank_of p count = round_to (count - 1) (position p count)

-- document 01, example 6: count 2, p 50, rank 1
pub example_6 : rank_of (of_int binary64 (pos 50)) 2 ≡ 1
unfolding mul div of_int
example_6 = refl

at_most : (last : ℕ) (x : Float) → round_to last x ≤ last
at_most last nan = omega arith
at_most last (inf true) = omega arith
at_most last (inf false) = omega arith
at_most last (fin true m e) = omega arith
at_most last (fin false m e) = capped (half_up (m * up e) (down e)) last
  where
    capped : (a b : ℕ) → min a b ≤ b
    capped a b = omega arith

-- a rank is that of a sample
pub rank_below : (p : Float) (count : ℕ) → 0 < count → rank_of p count < count
rank_below p count h = omega (arith, at_most (count - 1) (position p count))

-- no samples have the rank 0
pub rank_of-none : (p : Float) → rank_of p 0 ≡ 0
rank_of-none p = omega (arith, at_most 0 (position p 0))
