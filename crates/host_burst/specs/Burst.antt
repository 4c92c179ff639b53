-- A whole receive burst in one call (document 02, Q-2): "answers, state and rooms equal those of the single calls in list order". S is what a single
-- call is lent besides its answer, with a monitor or without.
-- Assumes nothing.
use Rattle.std.specs.Prelude.{◌&&◌, cond, List, [], ◌∷◌, ℕ, zero, suc, eqb, leb, length, get_or, set}

-- what a single call leaves of what it was lent, and its row of the answers
pub record Single (S : Type 0) : Type 0 where
  pub state : S
  pub row : List ℕ

-- what a burst leaves: the same, and all rows
pub record Burst (S : Type 0) : Type 0 where
  pub state : S
  pub rows : List (List ℕ)

-- the number that a call for a list returns, and what it leaves
pub record Listed (S : Type 0) : Type 0 where
  pub number : ℕ
  pub burst : Burst S

module _ {S : Type 0} where
  -- the record above, made of its parts in their order
  abbrev pub single : S → List ℕ → Single S
  single s row = record { state = s; row = row }

  -- of these
  abbrev pub left : S → List (List ℕ) → Burst S
  left s rows = record { state = s; rows = rows }

  -- of these
  abbrev pub listed : ℕ → Burst S → Listed S
  listed n b = record { number = n; burst = b }

  -- a row before those of the rest of the list
  abbrev pub behind : List ℕ → Burst S → Burst S
  behind row b = left b.state (row ∷ b.rows)

-- "5 for the whole list if the answer room isn't the list's length or the list is above 256, before any entry is served"
abbrev pub burst_refusal : (entries rows : ℕ) → ℕ
burst_refusal entries rows = cond (eqb rows entries && leb entries 256) 0 5

-- call: what a single call does with an entry and its row
module _ {S : Type 0} (call : S → List ℕ → List ℕ → Single S) where
  -- THE BURST: the single calls in list order, each lent what the last one left; "an entry that is refused is answered with its number and the rest go on"
  unfoldable pub burst : S → (entries rows : List (List ℕ)) → Burst S
  burst s [] rows = left s rows
  burst s (e ∷ entries) [] = left s []
  burst s (e ∷ entries) (row ∷ rows) = behind (call s e row).row (burst (call s e row).state entries rows)

  -- by the refusal of the whole list, which changes nothing
  abbrev pub burst_by : ℕ → S → (entries rows : List (List ℕ)) → Listed S
  burst_by zero s entries rows = listed 0 (burst s entries rows)
  burst_by (suc n) s entries rows = listed (suc n) (left s rows)

  -- the call for a list
  abbrev pub burst_to : S → (entries rows : List (List ℕ)) → Listed S
  burst_to s entries rows = burst_by (burst_refusal (length entries) (length rows)) s entries rows

  -- ---- as the code goes along it

  -- entry n, after those before it
  abbrev pub one_more : List (List ℕ) → Burst S → ℕ → Burst S
  one_more entries b n = left (call b.state (get_or entries n []) (get_or b.rows n [])).state (set b.rows n (call b.state (get_or entries n []) (get_or b.rows n [])).row)

  -- the first n entries
  unfoldable pub up_to : List (List ℕ) → Burst S → ℕ → Burst S
  up_to entries b zero = b
  up_to entries b (suc n) = one_more entries (up_to entries b n) n
