-- A collector in twelve lent words. Assumes nothing.
use Rattle.std.specs.Prelude.{false, List, [], ◌∷◌, ℕ, get_or}
use Rattle.std.specs.Float.{binary64}
use Rattle.std.specs.Float.Ieee.{of_bits, to_bits}
use Rattle.spread.specs.declared.RttCollector.{RttCollector}

-- what twelve words say, whatever they hold
abbrev pub collector_at : List ℕ → RttCollector
collector_at ws = record {
  quantiles = record { signed = false; count = get_or ws 0 0; min = get_or ws 1 0; max = get_or ws 2 0 };
  sum = record { negative = false; high = get_or ws 3 0; low = get_or ws 4 0 };
  welford = record { origin = get_or ws 5 0; mean = of_bits binary64 (get_or ws 6 0); m2 = of_bits binary64 (get_or ws 7 0) };
  jitter = record { sum = record { negative = false; high = get_or ws 8 0; low = get_or ws 9 0 }; count = get_or ws 10 0; last = get_or ws 11 0 };
}

-- the twelve words of a collector
abbrev pub collector_words : RttCollector → List ℕ
collector_words c =
    c.quantiles.count ∷ c.quantiles.min ∷ c.quantiles.max ∷ c.sum.high ∷ c.sum.low
    ∷ c.welford.origin ∷ to_bits binary64 c.welford.mean ∷ to_bits binary64 c.welford.m2
    ∷ c.jitter.sum.high ∷ c.jitter.sum.low ∷ c.jitter.count ∷ c.jitter.last ∷ []
