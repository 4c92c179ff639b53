-- The sample of a rank, characterized by counting alone.
use Rattle.std.specs.Prelude.{ℕ, List, ◌∷◌}
use Rattle.exact_rank.specs.Counting.{KeyOfRank}

-- v is one of the samples
pub data In (v : ℕ) : List ℕ → Type 0 where
  here : {xs : List ℕ} → In v (v ∷ xs)
  there : {y : ℕ} {ys : List ℕ} → In v ys → In v (y ∷ ys)

-- v is a sample, at most `rank` samples have a lower key, and more than `rank` have no higher one
pub record SampleOfRank (key : ℕ → ℕ) (xs : List ℕ) (rank v : ℕ) : Type 0 where
  pub member : In v xs
  pub counted : KeyOfRank key xs rank (key v)
