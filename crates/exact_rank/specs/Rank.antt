-- The sample of a rank: what `sorted[rank]` is after `sort_unstable` in src/stats/quantiles.rs. Stated once, over the key by
-- which samples are ordered, so that the signed order is the same law at another key.
use Rattle.std.specs.Prelude.{ℕ, ◌-◌, ◌^◌, ◌<◌, Bool, true, false, List, [], ◌∷◌, map, take, nat_le, slice_index}
use Rattle.sample_passes.specs.Keys.{shifted}

-- the key of an unsigned sample is the sample
abbrev pub unsigned : ℕ → ℕ
unsigned x = x

-- the key of a signed sample in two's complement: -2^63 has key 0, and -1, 0 and 1 follow one another
abbrev pub signed : ℕ → ℕ
signed = shifted (2 ^ 63)

-- the first list where the test holds, else the second
unfoldable pub choose : Bool → List ℕ → List ℕ → List ℕ
choose true xs ys = xs
choose false xs ys = ys

-- x before the first sample whose key is not below its own
unfoldable pub insert : (ℕ → ℕ) → ℕ → List ℕ → List ℕ
insert key x [] = x ∷ []
insert key x (y ∷ ys) = choose (nat_le (key x) (key y)) (x ∷ y ∷ ys) (y ∷ insert key x ys)

-- the samples in the order of their keys
unfoldable pub sorted : (ℕ → ℕ) → List ℕ → List ℕ
sorted key [] = []
sorted key (x ∷ xs) = insert key x (sorted key xs)

-- the sample of a rank, counted from 0, among the first `count` samples
unfoldable pub at_rank : (ℕ → ℕ) → List ℕ → ℕ → ℕ → ℕ
at_rank key samples count rank = slice_index (sorted key (take count samples)) rank

-- the samples of several ranks
unfoldable pub at_ranks : (ℕ → ℕ) → List ℕ → ℕ → List ℕ → List ℕ
at_ranks key samples count ranks = map (at_rank key samples count) ranks

-- every rank is that of a sample
abbrev pub Ranks : List ℕ → ℕ → Type 0
Ranks ranks count = (k : ℕ) → k < 4 → slice_index ranks k < count

-- the samples that stand at the ranks
unfoldable pub standing_at : List ℕ → List ℕ → List ℕ
standing_at samples ranks = map (λ (rank : ℕ). slice_index samples rank) ranks

-- the ranks as counted from the last of `count` samples
unfoldable pub back_ranks : ℕ → List ℕ → List ℕ
back_ranks count ranks = map (λ (rank : ℕ). count - 1 - rank) ranks
