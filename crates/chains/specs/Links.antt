-- The lanes of a room of links: each row has four pairs of links, and a lane is the index of a pair's first.
-- Assumes nothing.
use Rattle.std.specs.Prelude.{cond, List, [], ℕ, ◌+◌, ◌<◌, ◌≡◌, eqb, length, get_or, set}

-- word i of a row
abbrev pub word_of : List (List ℕ) → ℕ → ℕ → ℕ
word_of rows row i = get_or (get_or rows row []) i 0

-- a room with another word i in one row
abbrev pub set_word : List (List ℕ) → ℕ → ℕ → ℕ → List (List ℕ)
set_word rows row i v = set rows row (set (get_or rows row []) i v)

-- the newest slot whose entry hashes to h
abbrev pub newest : ℕ → List (List ℕ) → ℕ → ℕ
newest lane links h = word_of links h lane

-- the slot of the next older entry with the hash of the entry in slot p
abbrev pub older : ℕ → List (List ℕ) → ℕ → ℕ
older lane links p = word_of links p (lane + 1)

-- the entry in slot p, of hash h, as the newest of its chain
unfoldable pub linked : ℕ → List (List ℕ) → ℕ → ℕ → List (List ℕ)
linked lane links h p = set_word (set_word links p (lane + 1) (newest lane links h)) h lane p

-- the oldest entry, in slot p and of hash h, leaves: where it is the newest of its chain, the chain leads to no slot, which N is
unfoldable pub ended : ℕ → ℕ → List (List ℕ) → ℕ → ℕ → List (List ℕ)
ended N lane links h p = cond (eqb (newest lane links h) p) (set_word links h lane N) links

-- a room of n rows of `width` words each
pub record Rows (n width : ℕ) (rows : List (List ℕ)) : Type 0 where
  pub rows_are : length rows ≡ n
  pub widths_are : (i : ℕ) → i < n → length (get_or rows i []) ≡ width
