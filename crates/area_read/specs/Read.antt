-- Reading an area: how many items it has, and each in one word of a lent room. Assumes nothing.
use Rattle.std.specs.Prelude.{List, [], map, ℕ, min, length, Result, Ok, Err}
use Rattle.limits.specs.declared.Refusal.{Refusal}
use Rattle.std.proofs.Math.Seq.{paste}
use Rattle.area_items.specs.Items.{Item, Reading, refused, items, area}
use Rattle.area_items.specs.Rows.{word_of}

-- the answer for a reading: its refusal, or how many items there are
abbrev pub checked_of : Reading → Result ℕ Refusal
checked_of (refused e) = Err e
checked_of (items is) = Ok (length is)

-- the items of a reading, none where it is refused
abbrev pub items_of : Reading → List Item
items_of (refused e) = []
items_of (items is) = is

-- the items in words
abbrev pub words_of : List Item → List ℕ
words_of is = map word_of is

-- what the room then holds: the words at its start, as many as it has place for; the rest of it stays, and after a refusal all of it
abbrev pub listed : Reading → List ℕ → List ℕ
listed (refused e) room = room
listed (items is) room = paste room 0 (words_of is) (min (length is) (length room))

-- what a call comes to
pub record Outcome : Type 0 where
  pub answer : Result ℕ Refusal
  pub room : List ℕ

-- an answer, and what the room then holds
abbrev pub outcome : Result ℕ Refusal → List ℕ → Outcome
outcome a room = record { answer = a; room = room }

-- the refusal and nothing else; or how many items there are, and their words
unfoldable pub read_into : (bytes room : List ℕ) → Outcome
read_into bytes room = outcome (checked_of (area bytes)) (listed (area bytes) room)
