-- The Welford steps of crate spread, from the words of the mean and the sum of squares to their words after a sample. Assumes nothing.
use Rattle.std.specs.Prelude.{ℕ}
use Rattle.std.specs.Float.{binary64}
use Rattle.std.specs.Float.Ieee.{of_bits, to_bits}
use Rattle.spread.specs.declared.Welford.{Welford}
use Rattle.spread.specs.Spread.{welford_from}
use Rattle.host_welford.specs.declared.FloatWords.{FloatWords}

-- the words of a state's floats
abbrev pub float_words : Welford → FloatWords
float_words w = record { mean = to_bits binary64 w.mean; m2 = to_bits binary64 w.m2 }

-- what the words say
abbrev pub welford_at : ℕ → ℕ → ℕ → Welford
welford_at origin mean m2 = record { origin = origin; mean = of_bits binary64 mean; m2 = of_bits binary64 m2 }

-- the words after the sample v with which there are n
abbrev pub step_words : (origin mean m2 n v : ℕ) → FloatWords
step_words origin mean m2 n v = float_words (welford_from origin (welford_at origin mean m2) n v)
