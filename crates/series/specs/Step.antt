-- A sum whose words change and whose sign stays. Assumes nothing.
use Rattle.std.specs.Prelude.{ℕ, Bool, true, false, ◌&&◌, nat_lt}
use Rattle.delays.specs.declared.Sum.{Sum}
use Rattle.delays.specs.Sums.{nanoseconds_of}
use Rattle.series.specs.Series.{sum_fits}
use Rattle.series.specs.Shown.{span_at}

-- 1 for a test that holds
abbrev pub one_if : Bool → ℕ
one_if true = 1
one_if false = 0

-- the sum with other words and the same sign
abbrev pub with_words : Sum → ℕ → ℕ → Sum
with_words s high low = record { negative = s.negative; high = high; low = low }

-- a sum below its bound whose low word alone is further from zero than a signed word
abbrev pub far_from : Sum → ℕ → Bool
far_from s w = sum_fits s && nat_lt (nanoseconds_of (span_at true w)).magnitude s.low
