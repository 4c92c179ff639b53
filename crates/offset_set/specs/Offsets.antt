-- The transmit offsets seen since the anchor, in their two rooms: whether one is there, and one more.
-- N is how many are held at most, and `hash` says which chain is walked: it decides nothing.
-- Assumes nothing.
use Rattle.std.specs.Prelude.{Bool, false, ◌||◌, cond, List, [], ◌∷◌, ℕ, ◌+◌, eqb, ltb, get_or, set}
use Rattle.chains.specs.Rings.{contents}
use Rattle.chains.specs.Walk.{walk}
use Rattle.chains.specs.Links.{newest, older, linked}

-- the offsets in the order of their arrival, the links of their chains, and how many offsets there are
pub record OffsetSet : Type 0 where
  pub offsets : List ℕ
  pub links : List (List ℕ)
  pub count : ℕ

-- the record above, made of its parts in their order
abbrev pub offset_set : List ℕ → List (List ℕ) → ℕ → OffsetSet
offset_set offsets links count = record { offsets = offsets; links = links; count = count }

-- whether an offset is in a list
unfoldable pub has : List ℕ → ℕ → Bool
has [] n = false
has (x ∷ xs) n = eqb n x || has xs n

-- the lane of the links that is the offsets' own
abbrev pub lane : ℕ
lane = 6

module _ (N : ℕ) where
  -- the offsets seen, newest first
  unfoldable pub seen : OffsetSet → List ℕ
  seen s = contents N (λ slot. get_or s.offsets slot 0) 0 s.count

  -- whether the chain of the offset's hash has it
  unfoldable pub contains : (ℕ → ℕ) → OffsetSet → ℕ → Bool
  contains hash s offset =
      ltb (walk N (λ slot. eqb offset (get_or s.offsets slot 0)) (older lane s.links) 0 s.count (newest lane s.links (hash offset))) N

  -- one offset more; a set of N stays as it is
  unfoldable pub added : (ℕ → ℕ) → OffsetSet → ℕ → OffsetSet
  added hash s offset =
      cond (ltb s.count N)
      (offset_set (set s.offsets s.count offset) (linked lane s.links (hash offset) s.count) (s.count + 1))
      s

  -- all of these added, the last of the list first
  unfoldable pub added_all : (ℕ → ℕ) → OffsetSet → List ℕ → OffsetSet
  added_all hash s [] = s
  added_all hash s (x ∷ xs) = added hash (added_all hash s xs) x
