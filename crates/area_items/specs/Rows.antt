-- Items in a row of bytes: what an area of given items is, and what is written of them. Assumes nothing.
use Rattle.std.specs.Prelude.{◌≡◌, true, cond, List, [], ◌∷◌, ◌++◌, map, ℕ, ◌+◌, ◌*◌, ◌/◌, ◌%◌, ◌<◌, ◌^◌, eqb, length, take}
use Rattle.area_items.specs.Items.{Item, fits}

-- the bytes of an item: flags, type, the length's upper and lower byte, the value
abbrev pub item_bytes : Item → List ℕ
item_bytes i = i.flags ∷ i.kind ∷ (length i.value / 256) ∷ (length i.value % 256) ∷ i.value

-- items one after the other
abbrev pub in_a_row : List Item → List ℕ
in_a_row [] = []
in_a_row (i ∷ is) = item_bytes i ++ in_a_row is

-- a value as it is written: of type 7 the last three bytes of 16 are reserved, and written 0
unfoldable pub written_value : (kind : ℕ) → List ℕ → List ℕ
written_value kind v = cond (eqb kind 7) (take 13 v ++ 0 ∷ 0 ∷ 0 ∷ []) v

-- an item as it is written: only reserved bytes differ
abbrev pub as_written : Item → Item
as_written i = record { start = i.start; flags = i.flags; kind = i.kind; value = written_value i.kind i.value }

-- the area that is written of items: each in turn, the flag byte whole
abbrev pub written_area : List Item → List ℕ
written_area is = in_a_row (map as_written is)

-- the same items where they then start, the first at a place
abbrev pub placed : ℕ → List Item → List Item
placed at [] = []
placed at (i ∷ is) = record { start = at; flags = i.flags; kind = i.kind; value = i.value } ∷ placed (at + 4 + length i.value) is

-- an item that can be written: each field has its width, and types 5 and 7 their lengths
pub record Fits (i : Item) : Type 0 where
  pub flags : i.flags < 256
  pub kind : i.kind < 256
  pub short : length i.value < 65536
  pub right : fits i.kind (length i.value) ≡ true

-- all of them
pub data AllFit : List Item → Type 0 where
  none : AllFit []
  more : {i : Item} {is : List Item} → Fits i → AllFit is → AllFit (i ∷ is)

-- an item in one word: its header's four bytes as they stand in the area, the first highest, then 32 bits of where its value begins
abbrev pub word_of : Item → ℕ
word_of i = ((i.flags * 256 + i.kind) * 65536 + length i.value) * 2 ^ 32 + (i.start + 4) % 2 ^ 32
