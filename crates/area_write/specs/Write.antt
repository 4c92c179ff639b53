-- Writing an area of items: each is one word, as the reader gives it, and its value lies in lent bytes. Assumes nothing.
use Rattle.std.specs.Prelude.{cond, List, [], ◌∷◌, ◌++◌, map, ℕ, ◌+◌, ◌/◌, ◌%◌, ◌^◌, ltb, length, take, drop, Option, Some, None, Result, Ok, Err}
use Rattle.limits.specs.declared.Refusal.{Refusal}
use Rattle.limits.specs.declared.Refusal.TheVariants as refusal
use Rattle.area_items.specs.Items.{Item, fits}
use Rattle.area_items.specs.Rows.{written_area}

-- the flag byte of an item's word
abbrev pub flags_of : ℕ → ℕ
flags_of word = word / 2 ^ 56

-- its type
abbrev pub kind_of : ℕ → ℕ
kind_of word = word / 2 ^ 48 % 256

-- its length
abbrev pub length_of : ℕ → ℕ
length_of word = word / 2 ^ 32 % 65536

-- where its value begins
abbrev pub place_of : ℕ → ℕ
place_of word = word % 2 ^ 32

-- the item that a word says, with its value out of the lent bytes
abbrev pub item_in : List ℕ → ℕ → Item
item_in values word = record { start = place_of word; flags = flags_of word; kind = kind_of word; value = take (length_of word) (drop (place_of word) values) }

-- refused when its value passes the end of the lent bytes; then for type 5 or 7 with another length
unfoldable pub verdict_in : List ℕ → ℕ → Result (Unit {0}) Refusal
verdict_in values word = cond (ltb (length values) (place_of word + length_of word)) (Err refusal.PassesEnd) (cond (fits (kind_of word) (length_of word)) (Ok tt) (Err refusal.WrongLength))

-- the first of two refusals
abbrev pub unless : Result (Unit {0}) Refusal → Result (Unit {0}) Refusal → Result (Unit {0}) Refusal
unless (Ok _) b = b
unless (Err e) b = Err e

-- the refusal of the first bad item, where there is one
unfoldable pub first_bad : List ℕ → (words : List ℕ) → Result (Unit {0}) Refusal
first_bad values [] = Ok tt
first_bad values (w ∷ ws) = unless (verdict_in values w) (first_bad values ws)

-- how many bytes an item needs
abbrev pub size_of : ℕ → ℕ
size_of word = 4 + length_of word

-- how many all of them need
unfoldable pub needed : List ℕ → ℕ
needed [] = 0
needed (w ∷ ws) = size_of w + needed ws

-- how many they need, where that is at most so many
abbrev pub sized : (most : ℕ) → List ℕ → Option ℕ
sized most words = cond (ltb most (needed words)) None (Some (needed words))

-- what is written of them
abbrev pub row_of : List ℕ → (words : List ℕ) → List ℕ
row_of values words = written_area (map (item_in values) words)

-- what a call comes to
pub record Outcome : Type 0 where
  pub answer : Result ℕ Refusal
  pub room : List ℕ

-- of this answer and these bytes
abbrev pub outcome : Result ℕ Refusal → List ℕ → Outcome
outcome a room = record { answer = a; room = room }

-- the refusal and nothing else, or how many bytes were written
abbrev pub by : (bad : Result (Unit {0}) Refusal) → Outcome → List ℕ → Outcome
by (Ok _) o room = o
by (Err e) o room = outcome (Err e) room

-- the first bad item decides; then refused when the room is shorter than what is needed; else the row stands at its start, and the rest stays
unfoldable pub write_into : (words values room : List ℕ) → Outcome
write_into words values room =
    by (first_bad values words)
    (cond (ltb (length room) (needed words)) (outcome (Err refusal.ShortRoom) room) (outcome (Ok (needed words)) (row_of values words ++ drop (needed words) room)))
    room
