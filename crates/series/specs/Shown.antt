-- What a series shows in ms: the summary of crate delays (document 01, "Delay averages") over its count, its sum and the quantiles' minimum and
-- maximum. Assumes nothing.
use Rattle.std.specs.Prelude.{ℕ, zero, suc, Bool, true, false, ℤ, pos, Option, Some, None}
use Rattle.std.specs.Int.{w64}
use Rattle.std.proofs.Common.{to_z}
use Rattle.delays.specs.declared.Nanoseconds.{Nanoseconds}
use Rattle.delays.specs.declared.Sum.{Sum}
use Rattle.delays.specs.declared.Delays.{Delays}
use Rattle.delays.specs.Sums.{nanoseconds_of}
use Rattle.quantiles.specs.declared.Quantiles.{Quantiles}

-- what a word says: a signed one is two's complement
abbrev pub span_at : Bool → ℕ → ℤ
span_at false w = pos w
span_at true w = to_z w64 w

-- at count 0 there is no minimum and no maximum
abbrev pub extreme_of : ℕ → Nanoseconds → Option Nanoseconds
extreme_of zero ns = None
extreme_of (suc n) ns = Some ns

-- the delays that quantiles and a sum say
abbrev pub delays_of : Quantiles → Sum → Delays
delays_of q sum = record {
  count = q.count;
  sum = sum;
  min = extreme_of q.count (nanoseconds_of (span_at q.signed q.min));
  max = extreme_of q.count (nanoseconds_of (span_at q.signed q.max));
}
