-- Numbers of 2 ^ k bytes, the most significant byte first. Assumes nothing.
use Rattle.std.specs.Prelude.{List, ℕ, zero, suc, ◌+◌, ◌*◌, ◌/◌, ◌%◌, ◌^◌, get_or, set}

-- what 2 ^ k bytes hold is below this
abbrev pub base : ℕ → ℕ
base k = 256 ^ 2 ^ k

-- the number that stands at a place: its upper half, then its lower half
abbrev pub number_at : (k : ℕ) → List ℕ → (at : ℕ) → ℕ
number_at zero bs at = get_or bs at 0
number_at (suc k) bs at = number_at k bs at * base k + number_at k bs (at + 2 ^ k)

-- the bytes with a number written over those at a place: its upper half, then its lower half
abbrev pub put : (k : ℕ) → List ℕ → (at v : ℕ) → List ℕ
put zero bs at v = set bs at v
put (suc k) bs at v = put k (put k bs at (v / base k)) (at + 2 ^ k) (v % base k)
