-- The sample of a rank by counting: no sort, so this is what a search among the samples is held against.
use Rattle.std.specs.Prelude.{ℕ, ◌+◌, ◌<◌, ◌≤◌, List}
unfoldable pub use Rattle.sample_passes.specs.Counting.{one_if, below}

-- k is the key of the sample of a rank: at most `rank` samples have a lower key, and more than `rank` have no higher one
pub record KeyOfRank (key : ℕ → ℕ) (xs : List ℕ) (rank k : ℕ) : Type 0 where
  pub few_below : below key k xs ≤ rank
  pub enough_through : rank < below key (k + 1) xs
