-- What a sample leaves of the sums beside the quantiles (`RttCollector::record` of src/stats.rs). Where the count is 0 there is no first and no
-- last sample. Assumes nothing.
use Rattle.std.specs.Prelude.{ℕ, ◌+◌, ◌-◌, Bool, false, cond, ◌&&◌, pos, ◌+ℤ◌, ◌-ℤ◌, nat_eq, nat_lt, Float}
use Rattle.std.specs.Float.{binary64}
use Rattle.std.specs.Float.Ieee.{of_int, add, sub, mul, div}
use Rattle.limits.specs.Limits.{count_bound}
use Rattle.delays.specs.Sums.{total_of, sum_of}
use Rattle.buckets.specs.Buckets.{pick}
use Rattle.quantiles.specs.declared.Quantiles.{Quantiles}
use Rattle.series.specs.Series.{sum_fits}
use Rattle.spread.specs.declared.Welford.{Welford}
use Rattle.spread.specs.declared.Jitter.{Jitter}
use Rattle.spread.specs.declared.RttCollector.{RttCollector}

-- how far apart two samples are
abbrev pub apart : ℕ → ℕ → ℕ
apart a b = (a - b) + (b - a)

-- a sample less the origin, in whole numbers, converted once: to the nearest f64, ties to even
abbrev pub centered_of : ℕ → ℕ → Float
centered_of v origin = of_int binary64 (pos v -ℤ pos origin)

-- how far a centered sample is from the mean so far
unfoldable pub delta_of : Float → Float → Float
delta_of centered mean = sub binary64 centered mean

-- the mean moves by that, divided by how many samples there are with this one
unfoldable pub mean_with : Float → Float → ℕ → Float
mean_with mean delta n = add binary64 mean (div binary64 delta (of_int binary64 (pos n)))

-- the sum of squares grows by that, times how far the sample is from the new mean
unfoldable pub squares_with : Float → Float → Float → Float → Float
squares_with m2 delta centered mean = add binary64 m2 (mul binary64 delta (sub binary64 centered mean))

-- the centered Welford steps for the sample with which there are n
unfoldable pub welford_from : ℕ → Welford → ℕ → ℕ → Welford
welford_from origin w n v =
    let centered = centered_of v origin in
    let delta = delta_of centered w.mean in
    let mean = mean_with w.mean delta n in
    record { origin = origin; mean = mean; m2 = squares_with w.m2 delta centered mean }

-- the sum and the count of differences from the sample before; the first has none before it
abbrev pub jitter_of : Jitter → Bool → ℕ → Jitter
jitter_of j first v = record {
  sum = cond first j.sum (sum_of (total_of j.sum +ℤ pos (apart v j.last)));
  count = cond first j.count (j.count + 1);
  last = v;
}

-- no samples yet
abbrev pub fresh : RttCollector
fresh = record {
  quantiles = record { signed = false; count = 0; min = 0; max = 0 };
  sum = sum_of (pos 0);
  welford = record { origin = 0; mean = of_int binary64 (pos 0); m2 = of_int binary64 (pos 0) };
  jitter = record { sum = sum_of (pos 0); count = 0; last = 0 };
}

-- each sum's magnitude is below 2^126, and the count of differences below 2^63
abbrev pub fits : RttCollector → Bool
fits s = sum_fits s.sum && sum_fits s.jitter.sum && nat_lt s.jitter.count count_bound

-- what a sample leaves that the quantiles took, with their state after it
unfoldable pub grown_of : RttCollector → Quantiles → ℕ → RttCollector
grown_of s next v =
    let first = nat_eq s.quantiles.count 0 in
    record {
      quantiles = next;
      sum = sum_of (total_of s.sum +ℤ pos v);
      welford = welford_from (pick first v s.welford.origin) s.welford next.count v;
      jitter = jitter_of s.jitter first v;
    }
