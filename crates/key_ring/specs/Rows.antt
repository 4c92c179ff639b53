-- Correlation slots without a table of their own. Each accepted key has a row of three words beside it, zeros until the key is observed;
-- the slot of a reflector number is the row of its newest observed key. Rows are newest first.
-- The words are those of crate `correlation`: the first has the count in bits 0 to 15 and in bit 16 whether the key was observed; the rest is
-- carried along.
-- Assumes nothing.
use Rattle.std.specs.Prelude.{Bool, ◌&&◌, cond, List, [], ◌∷◌, ℕ, suc, ◌%◌, ◌≤◌, eqb, get_or, set}
use Rattle.correlation.specs.Words.{flag}
use Rattle.correlation.specs.Slots.{lower_word}
use Rattle.chains.specs.Walk.{first_of, change_first}

-- the row of a key that was not observed, which is also what stands for no slot
abbrev pub no_slot : List ℕ
no_slot = 0 ∷ 0 ∷ 0 ∷ []

-- the count of a row
abbrev pub count_of : List ℕ → ℕ
count_of words = get_or words 0 0 % 65536

-- whether the key of a row was observed
abbrev pub is_observed : List ℕ → Bool
is_observed words = flag 16 (get_or words 0 0)

-- a row whose count is one less, and not below 0
abbrev pub lowered : List ℕ → List ℕ
lowered words = set words 0 (lower_word (get_or words 0 0))

-- an accepted key's reflector number, and its words
pub record Row : Type 0 where
  pub number : ℕ
  pub words : List ℕ

-- a row that can hold the slot of r: it was observed, and its key has that number
abbrev pub holds? : ℕ → Row → Bool
holds? r x = is_observed x.words && eqb r x.number

-- the words of the newest observed row of r
abbrev pub words_of : List Row → ℕ → List ℕ
words_of rows r = first_of (holds? r) (λ x. x.words) no_slot rows

-- a count of 0 is no slot
abbrev pub taken : List ℕ → List ℕ
taken words = cond (eqb (count_of words) 0) no_slot words

-- the slot of the reflector number r
abbrev pub slot_in : List Row → ℕ → List ℕ
slot_in rows r = taken (words_of rows r)

-- a row with other words
abbrev pub with : (List ℕ → List ℕ) → Row → Row
with f x = record { number = x.number; words = f x.words }

-- f at the newest observed row of r, where there is one
abbrev pub change : (List ℕ → List ℕ) → ℕ → List Row → List Row
change f r rows = change_first (holds? r) (with f) rows

-- how many observed rows r has
unfoldable pub observed_in : List Row → ℕ → ℕ
observed_in [] r = 0
observed_in (x ∷ xs) r = cond (holds? r x) (suc (observed_in xs r)) (observed_in xs r)

-- No count exceeds the observed rows of its number.
abbrev pub Counted : List Row → Type 0
Counted rows = (r : ℕ) → count_of (words_of rows r) ≤ observed_in rows r

-- the row of a key that was just accepted
abbrev pub new_row : ℕ → Row
new_row r = record { number = r; words = no_slot }
