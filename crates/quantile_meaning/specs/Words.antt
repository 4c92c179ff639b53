-- The samples that a room can have been given. Assumes nothing.
use Rattle.std.specs.Prelude.{List, [], ◌∷◌, ℕ, ◌^◌, ◌<◌}

-- each is a u64 word
pub data Words : List ℕ → Type 0 where
  none : Words []
  more : {v : ℕ} {vs : List ℕ} → v < 2 ^ 64 → Words vs → Words (v ∷ vs)
