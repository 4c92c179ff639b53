-- The integers that a sign and words say, and the sign and words of an integer. Zero is written without a sign. Assumes nothing.
use Rattle.std.specs.Prelude.{Bool, true, false, ◌&&◌, ℕ, suc, ◌/◌, ◌%◌, ◌^◌, ℤ, pos, negsuc, ltb}
use Rattle.floats.specs.Whole.{magnitude, signed}
use Rattle.delays.specs.declared.Nanoseconds.{Nanoseconds}
use Rattle.delays.specs.declared.Sum.{Sum}

-- what a sample says, and the sample that says an integer
abbrev pub value_of : Nanoseconds → ℤ
value_of n = signed n.negative n.magnitude

-- the sample that says an integer: its sign and its magnitude, zero without a sign
abbrev pub nanoseconds_of : ℤ → Nanoseconds
nanoseconds_of (pos n) = record { negative = false; magnitude = n }
nanoseconds_of (negsuc n) = record { negative = true; magnitude = suc n }

-- what a sum says
abbrev pub total_of : Sum → ℤ
total_of s = signed s.negative (magnitude s.high s.low)

-- the sum of a sign and a magnitude
abbrev pub sum_from : Bool → ℕ → Sum
sum_from negative n = record { negative = negative && ltb 0 n; high = n / 2 ^ 64; low = n % 2 ^ 64 }

-- the sum that says an integer
abbrev pub sum_of : ℤ → Sum
sum_of (pos n) = sum_from false n
sum_of (negsuc n) = sum_from true (suc n)
