-- Worked examples of the definitions.
use Rattle.std.specs.Prelude.{◌≡◌, refl, [], ◌∷◌, pos, negsuc}
use Rattle.std.specs.Float.{binary64}
use Rattle.std.specs.Float.Ieee.{of_int, add, sub, mul, div}
use Rattle.spread.specs.Spread.{delta_of, mean_with, squares_with, welford_from}
use Rattle.spread_meaning.specs.Samples.{total, least, greatest, first, last, differences, steps}

-- 9 ns, then 2, then 5: 7 and 3 apart
apart_from_each_other : differences (5 ∷ 2 ∷ 9 ∷ []) ≡ 10
unfolding differences
apart_from_each_other = refl

-- the first is 9, the last 5, the sum 16
whole_numbers : (first (5 ∷ 2 ∷ 9 ∷ []) ≡ 9) × (last (5 ∷ 2 ∷ 9 ∷ []) ≡ 5) × (total (5 ∷ 2 ∷ 9 ∷ []) ≡ 16) × (least (5 ∷ 2 ∷ 9 ∷ []) ≡ 2) × (greatest (5 ∷ 2 ∷ 9 ∷ []) ≡ 9)
unfolding first last total least greatest
whole_numbers = (refl, refl, refl, refl, refl)

-- 9 ns, then 5: the mean is 2 below the first, and the squares add up to 8
two_steps : steps (5 ∷ 9 ∷ []) ≡ record { origin = 9; mean = of_int binary64 (negsuc 1); m2 = of_int binary64 (pos 8) }
unfolding steps first welford_from delta_of mean_with squares_with of_int add sub mul div
two_steps = refl
