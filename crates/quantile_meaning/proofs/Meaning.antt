-- What a percentile of a histogram is: a value within 1/128 of the exact rank's sample. Assumes nothing.
use mathlib.Core.Path.{◌≡◌, sym, subst}
use mathlib.Core.Bool.{Bool}
use mathlib.Core.List.{List}
use mathlib.Core.Logic.{⊎_elim}
use Prim.Native.Nat.{ℕ, ◌+◌, ◌-◌, ◌*◌, ◌^◌, ◌≤◌, ◌<◌}
use native.Mathlib.Nat.{le_trans}
use native.Mathlib.Omega.{arith}
use lib.ListN.{length, get_or}
use Rattle.buckets.specs.Signed.{bucket_count, magnitude, order, gap, index_of, value_of}
use Rattle.buckets.proofs.Facts.{lt_or_ge}
use Rattle.buckets.proofs.SignedFacts.{shown_of-near}
use Rattle.exact_rank.specs.Rank.{sorted}
use Rattle.exact_rank.proofs.Sorting.{sorted-is_counted}
use Rattle.histogram.specs.Histogram.{bucket_at}
use Rattle.quantiles.specs.Record.{filled_buckets}
use Rattle.quantiles.proofs.Tally.{filled-length}
use Rattle.histogram_ranks.specs.Ranks.{clamped}
use Rattle.histogram_ranks.proofs.Values.{clamp-low, clamp-high, clamp-between}
use Rattle.quantile_meaning.specs.Words.{Words}
use Rattle.quantile_meaning.proofs.Buckets.{bucket_of-rank, sorted-word}

-- a value that is clamped between two around x comes no farther from x
pub clamped-near : (s : Bool) (x y low high : ℕ) → order s low ≤ order s x → order s x ≤ order s high → gap s x (clamped s y low high) ≤ gap s x y
clamped-near s x y low high l h = ⊎_elim under (λ g. ⊎_elim over (between g) (lt_or_ge (order s high) (order s y))) (lt_or_ge (order s y) (order s low))
  where
    near-low : (a b c : ℕ) → b < c → c ≤ a → (a - c) + (c - a) ≤ (a - b) + (b - a)
    near-low a b c m k = omega arith

    near-high : (a b c : ℕ) → c < b → a ≤ c → (a - c) + (c - a) ≤ (a - b) + (b - a)
    near-high a b c m k = omega arith

    under : order s y < order s low → gap s x (clamped s y low high) ≤ gap s x y
    under u = subst (λ (z : ℕ). gap s x z ≤ gap s x y) (clamp-low s y low high u) (near-low (order s x) (order s y) (order s low) u l)

    over : order s high < order s y → gap s x (clamped s y low high) ≤ gap s x y
    over u =
        subst (λ (z : ℕ). gap s x z ≤ gap s x y) (clamp-high s y low high (le_trans l (le_trans h (omega arith))) u)
        (near-high (order s x) (order s y) (order s high) u h)

    between : order s low ≤ order s y → order s y ≤ order s high → gap s x (clamped s y low high) ≤ gap s x y
    between g k = subst (λ (z : ℕ). gap s x z ≤ gap s x y) (clamp-between s y low high g k) (same (gap s x y))
      where
        same : (n : ℕ) → n ≤ n
        same n = omega arith

-- the sample of a rank in sorted order
abbrev pub sample_of : Bool → List ℕ → ℕ → ℕ
sample_of s vs r = get_or (sorted (order s) vs) r 0

-- the buckets that count a list of samples show, for a rank, the bucket of the sample that has the rank in sorted order
pub bucket_of_sample : (s : Bool) (vs : List ℕ) (r : ℕ) → Words vs → r < length vs → bucket_at (filled_buckets s vs) r ≡ index_of s (sample_of s vs r)
bucket_of_sample s vs r w l = bucket_of-rank s vs r (sample_of s vs r) w (sorted-word (order s) vs r w) (filled-length (index_of s) (bucket_count s) vs) (sorted-is_counted (order s) vs r l)

-- so the value shown, clamped to a minimum and a maximum around that sample, is within 1/128 of it
pub within_one_part_in_128 : (s : Bool) (vs : List ℕ) (r low high : ℕ) → Words vs → r < length vs
    → order s low ≤ order s (sample_of s vs r) → order s (sample_of s vs r) ≤ order s high
    → 128 * gap s (sample_of s vs r) (clamped s (value_of s (bucket_at (filled_buckets s vs) r)) low high) ≤ magnitude s (sample_of s vs r)
within_one_part_in_128 s vs r low high w l a b =
    subst (λ (i : ℕ). 128 * gap s (sample_of s vs r) (clamped s (value_of s i) low high) ≤ magnitude s (sample_of s vs r)) (sym (bucket_of_sample s vs r w l))
    (near (sample_of s vs r) (sorted-word (order s) vs r w) a b)
  where
    scaled : (c g m : ℕ) → c ≤ g → 128 * g ≤ m → 128 * c ≤ m
    scaled c g m k e = omega arith

    near : (x : ℕ) → x < 2 ^ 64 → order s low ≤ order s x → order s x ≤ order s high → 128 * gap s x (clamped s (value_of s (index_of s x)) low high) ≤ magnitude s x
    near x h a b =
        scaled (gap s x (clamped s (value_of s (index_of s x)) low high)) (gap s x (value_of s (index_of s x))) (magnitude s x)
        (clamped-near s x (value_of s (index_of s x)) low high a b) (shown_of-near s x h)
