-- Chains of equal hash through a ring of any capacity N: how a chain is walked, on any contents of the rooms.
-- `same` says whether the entry of a slot is the one asked for, `older` is where the link of a slot leads.
-- Assumes nothing.
use Rattle.std.specs.Prelude.{Bool, cond, List, [], ◌∷◌, ℕ, zero, suc, ◌+◌, ◌-◌, eqb, ltb}
use Rattle.chains.specs.Rings.{wrap}

-- where a link leads, counted from the oldest entry; N where it is no slot
unfoldable pub place_of : ℕ → ℕ → ℕ → ℕ
place_of N head link = cond (ltb link N) (cond (ltb link head) (link + N - head) (link - head)) N

-- The slot of the first entry asked for on the way from a link down, below place b; N where there is none.
-- A link is followed where it leads to a lower place, and never up: the place falls with each step, whatever the rooms hold.
unfoldable pub walk : ℕ → (ℕ → Bool) → (ℕ → ℕ) → ℕ → ℕ → ℕ → ℕ
walk N same older head zero link = N
walk N same older head (suc b) link =
    cond (eqb link (wrap N (head + b)))
    (cond (same (wrap N (head + b))) (wrap N (head + b)) (walk N same older head b (older (wrap N (head + b)))))
    (walk N same older head b link)

-- The plain scan that a walk stands for: the slot of the newest entry asked for among the n oldest; N where there is none.
unfoldable pub newest_of : ℕ → (ℕ → Bool) → ℕ → ℕ → ℕ
newest_of N same head zero = N
newest_of N same head (suc n) = cond (same (wrap N (head + n))) (wrap N (head + n)) (newest_of N same head n)

-- f of the first entry of a list that is asked for; d where there is none
unfoldable pub first_of : {A B : Type 0} → (A → Bool) → (A → B) → B → List A → B
first_of test f d [] = d
first_of test f d (x ∷ xs) = cond (test x) (f x) (first_of test f d xs)

-- a list with f of its first entry that is asked for
unfoldable pub change_first : {A : Type 0} → (A → Bool) → (A → A) → List A → List A
change_first test f [] = []
change_first test f (x ∷ xs) = cond (test x) (f x ∷ xs) (x ∷ change_first test f xs)
