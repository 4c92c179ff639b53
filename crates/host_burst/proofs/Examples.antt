-- Worked examples of a list, with a single call that is easy to follow: its state is the keys that it took, newest first, and it refuses key 9 with 4.
-- They compute. Assumes nothing.
use mathlib.Core.Path.{◌≡◌, refl}
use mathlib.Core.Bool.{cond}
use mathlib.Core.List.{List, [], ◌∷◌}
use Prim.Native.Nat.{ℕ}
use lib.Dec.{eqb}
use lib.ListN.{get_or, replicate}
use Rattle.host_burst.specs.Burst.{Single, Burst, left, single, burst, burst_to, listed}

-- takes the entry's first word: the row is 0 and how many keys were there, or 4 and what stood there
unfoldable take : List ℕ → ℕ → List ℕ → Single (List ℕ)
take s key row = cond (eqb key 9) (single s (4 ∷ get_or row 1 0 ∷ [])) (single (key ∷ s) (0 ∷ get_or s 0 0 ∷ []))

unfoldable call : List ℕ → List ℕ → List ℕ → Single (List ℕ)
call s e row = take s (get_or e 0 0) row

abbrev three : List (List ℕ)
three = (1 ∷ []) ∷ (9 ∷ []) ∷ (2 ∷ []) ∷ []

abbrev rows : List (List ℕ)
rows = (7 ∷ 7 ∷ []) ∷ (7 ∷ 7 ∷ []) ∷ (7 ∷ 7 ∷ []) ∷ []

-- the second entry is refused and the third is served; its answer's word stays, and each answer stands where its entry stands
the_rest_go_on : (burst call [] three rows).rows ≡ (0 ∷ 0 ∷ []) ∷ (4 ∷ 7 ∷ []) ∷ (0 ∷ 1 ∷ []) ∷ []
unfolding burst call take
the_rest_go_on = refl

-- the newest key is the last one that was served
the_last_stands : (burst call [] three rows).state ≡ 2 ∷ 1 ∷ []
unfolding burst call take
the_last_stands = refl

-- a room of another length: nothing is served
the_room_decides : burst_to call [] three [] ≡ listed 5 (left [] [])
the_room_decides = refl

-- 257 entries: nothing is served
too_many : (burst_to call [] (replicate 257 (1 ∷ [])) (replicate 257 (7 ∷ []))).number ≡ 5
too_many = refl
