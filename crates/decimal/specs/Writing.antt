-- A text that is written over bytes from a place on. Assumes nothing.
use Rattle.std.specs.Prelude.{◌≡◌, List, ◌++◌, ℕ, ◌+◌, ◌≤◌, length, take, drop}

-- the bytes with a text written over those from a place on: before and behind it they are as they were
unfoldable pub over : List ℕ → (at : ℕ) → List ℕ → List ℕ
over bytes at text = take at bytes ++ (text ++ drop (at + length text) bytes)

-- a text of at most so many bytes was written at a place, and r is the place behind it
pub record Stands (most : ℕ) (text before : List ℕ) (at : ℕ) (after : List ℕ) (r : ℕ) : Type 0 where
  pub bytes : after ≡ over before at text
  pub end : r ≡ at + length text
  pub short : length text ≤ most
