-- How many samples have a key below a given one: what every pass is held against.
use Rattle.std.specs.Prelude.{ℕ, ◌+◌, Bool, true, false, List, [], ◌∷◌, nat_lt}

-- 1 where the test holds
unfoldable pub one_if : Bool → ℕ
one_if true = 1
one_if false = 0

-- how many samples have a key below k
unfoldable pub below : (ℕ → ℕ) → ℕ → List ℕ → ℕ
below key k [] = 0
below key k (x ∷ xs) = one_if (nat_lt (key x) k) + below key k xs
