-- The ratios that a summary shows: f64, in the source's order of steps. Assumes nothing.
use Rattle.std.specs.Prelude.{ℕ, zero, suc, pos, Float, Option, Some, None}
use Rattle.std.specs.Float.{binary64}
use Rattle.std.specs.Float.Ieee.{of_int, mul, div}
use Rattle.bit_summary.specs.declared.Ratios.{Ratios}
use Rattle.bit_summary.specs.declared.DirectionSummary.{DirectionSummary}

-- both to f64 by nearest, ties to even, then divided
abbrev pub quotient : ℕ → ℕ → Float
quotient part whole = div binary64 (of_int binary64 (pos part)) (of_int binary64 (pos whole))

-- absent while nothing was counted
abbrev pub ratio_of : ℕ → ℕ → Option Float
ratio_of part zero = None
ratio_of part (suc n) = Some (quotient part (suc n))

-- the quotient, then times 1,000,000
abbrev pub per_million : Option Float → Option Float
per_million None = None
per_million (Some value) = Some (mul binary64 value (of_int binary64 (pos 1000000)))

-- the bit ratios are of the bits counted, the packet ratio of the packets, and the average burst of the samples that have one
abbrev pub shown_of : DirectionSummary → Ratios
shown_of d = record {
  ratio = ratio_of d.errors d.bits;
  errors = per_million (ratio_of d.errors d.bits);
  packets = per_million (ratio_of d.faulty d.received);
  burst = ratio_of d.sum d.bursts;
}
