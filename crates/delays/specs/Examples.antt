-- Worked examples of the definitions.
use Rattle.std.specs.Prelude.{◌≡◌, refl, true, false, [], ◌∷◌, ◌-◌, ◌^◌, pos, negsuc, ◌+ℤ◌, Some, None}
use Rattle.std.specs.Float.Ieee.{of_int, div}
use Rattle.delays.specs.Sums.{nanoseconds_of, sum_of}
use Rattle.delays.specs.Summary.{in_ms, average_ms}
use Rattle.delays.specs.Samples.{played}

-- 1 ns after -3 ns: the sum is -2
two_samples : played (nanoseconds_of (pos 1) ∷ nanoseconds_of (negsuc 2) ∷ [])
    ≡ record { count = 2; sum = record { negative = true; high = 0; low = 2 }; min = Some (record { negative = true; magnitude = 3 }); max = Some (record { negative = false; magnitude = 1 }) }
unfolding played
two_samples = refl

-- 1 ns after -1 ns: zero has no sign
back_to_zero : (played (nanoseconds_of (pos 1) ∷ nanoseconds_of (negsuc 0) ∷ [])).sum ≡ record { negative = false; high = 0; low = 0 }
unfolding played
back_to_zero = refl

-- one more than the largest word
carry : sum_of (pos (2 ^ 64 - 1) +ℤ pos 1) ≡ record { negative = false; high = 1; low = 0 }
carry = refl

-- -4 ns over 2 samples are -2 ns
average : average_ms (negsuc 3) 2 ≡ Some (in_ms (negsuc 1))
unfolding of_int div
average = refl

none : average_ms (pos 0) 0 ≡ None
none = refl
