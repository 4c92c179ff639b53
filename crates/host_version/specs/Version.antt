-- What `version` returns and leaves in the words of a host: it refuses nothing. Assumes nothing.
use Rattle.std.specs.Prelude.{List, [], ◌∷◌, ℕ}

-- the number returned, and the answer's word
pub record Left : Type 0 where
  pub number : ℕ
  pub answer : List ℕ

-- what the call leaves, made of its number and the answer's word
abbrev pub left : ℕ → List ℕ → Left
left number answer = record { number = number; answer = answer }

-- 1,000,000 times the first part, 1,000 times the second, and the third: 0.2.0
abbrev pub VERSION : ℕ
VERSION = 2000

-- of any word
unfoldable pub version_leaves : Left
version_leaves = left 0 (VERSION ∷ [])
