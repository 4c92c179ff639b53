-- What a summary shows (document 01, "Delay averages"), at every state. Assumes nothing.
use Rattle.delays.specs.declared.Nanoseconds.{Nanoseconds}
use Rattle.std.specs.Prelude.{ℕ, zero, suc, ℤ, pos, Float, Option, Some, None}
use Rattle.std.specs.Float.{binary64}
use Rattle.std.specs.Float.Ieee.{of_int, div}
use Rattle.delays.specs.declared.Delays.{Delays}
use Rattle.delays.specs.declared.DelaySummary.{DelaySummary}
use Rattle.delays.specs.Sums.{value_of, total_of}

-- converted to the nearest f64, divided by 1,000,000
abbrev pub in_ms : ℤ → Float
in_ms ns = div binary64 (of_int binary64 ns) (of_int binary64 (pos 1000000))

-- a minimum or maximum in ms, absent where the state has none
abbrev pub extreme_ms : Option Nanoseconds → Option Float
extreme_ms None = None
extreme_ms (Some ns) = Some (in_ms (value_of ns))

-- the sum to f64 by nearest, ties to even, divided by the count likewise converted, then by 1,000,000
abbrev pub quotient_ms : ℤ → ℕ → Float
quotient_ms sum count = div binary64 (div binary64 (of_int binary64 sum) (of_int binary64 (pos count))) (of_int binary64 (pos 1000000))

-- no samples: no value
abbrev pub average_ms : ℤ → ℕ → Option Float
average_ms sum zero = None
average_ms sum (suc n) = Some (quotient_ms sum (suc n))

-- how many samples there are, and their minimum, average and maximum in ms
abbrev pub summary_of : Delays → DelaySummary
summary_of d = record {
  samples = d.count;
  min = extreme_ms d.min;
  average = average_ms (total_of d.sum) d.count;
  max = extreme_ms d.max;
}
