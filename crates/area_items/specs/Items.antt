-- The extension area of RFC 8972, section 4: items one after the other, each a flag byte, a type byte, a 16-bit length, then the value.
-- Which byte strings are areas, with their items and where each starts; and of any other string which refusal it is. Assumes nothing.
use Rattle.std.specs.Prelude.{Bool, true, cond, List, [], ◌∷◌, ℕ, zero, suc, ◌+◌, ◌-◌, eqb, ltb, length, get_or, take, drop, Result, Ok, Err}
use Rattle.limits.specs.declared.Refusal.{Refusal}
use Rattle.limits.specs.declared.Refusal.TheVariants as refusal
use Rattle.big_endian.specs.Numbers.{number_at}

-- an item: where it starts in the area, its flag byte, its type, and the bytes of its value
pub record Item : Type 0 where
  pub start : ℕ
  pub flags : ℕ
  pub kind : ℕ
  pub value : List ℕ

-- the type that the header at a place says
abbrev pub kind_at : List ℕ → ℕ → ℕ
kind_at bytes at = get_or bytes (at + 1) 0

-- the length that the header at a place says: that of the value, without the header
abbrev pub length_at : List ℕ → ℕ → ℕ
length_at bytes at = number_at 1 bytes (at + 2)

-- where the item at a place ends: behind its header of four bytes and its value
abbrev pub end_at : List ℕ → ℕ → ℕ
end_at bytes at = at + 4 + length_at bytes at

-- the item at a place
abbrev pub item_at : List ℕ → ℕ → Item
item_at bytes at = record { start = at; flags = get_or bytes at 0; kind = kind_at bytes at; value = take (length_at bytes at) (drop (at + 4) bytes) }

-- Direct Measurement is type 5 with length 12, Follow-Up Telemetry type 7 with length 16; another type has any length
unfoldable pub fits : (kind n : ℕ) → Bool
fits kind n = cond (eqb kind 5) (eqb n 12) (cond (eqb kind 7) (eqb n 16) true)

-- refused when the header or the value passes the end; then for type 5 or 7 with another length
unfoldable pub verdict_at : List ℕ → ℕ → Result (Unit {0}) Refusal
verdict_at bytes at =
    cond (ltb (length bytes) (at + 4)) (Err refusal.PassesEnd)
    (cond (ltb (length bytes) (end_at bytes at)) (Err refusal.PassesEnd)
    (cond (fits (kind_at bytes at) (length_at bytes at)) (Ok tt) (Err refusal.WrongLength)))

-- what reading comes to: the refusal of the first bad item, and nothing else; or all items
pub data Reading : Type 0 where
  refused : Refusal → Reading
  items : List Item → Reading

-- an item before those that were read
abbrev pub before : Item → Reading → Reading
before i (refused r) = refused r
before i (items is) = items (i ∷ is)

-- an item by its verdict: a bad one decides
abbrev pub judged : (verdict : Result (Unit {0}) Refusal) → Item → Reading → Reading
judged (Ok _) i r = before i r
judged (Err e) i r = refused e

-- the items from a place on, at most so many of them
unfoldable pub read_from : (most : ℕ) → List ℕ → (at : ℕ) → Reading
read_from zero bytes at = items []
read_from (suc n) bytes at =
    let r = read_from n bytes (end_at bytes at) in
    cond (ltb at (length bytes)) (judged (verdict_at bytes at) (item_at bytes at) r) (items [])

-- all items from a place on: no more than there are bytes, since each takes four or more
unfoldable pub rest_of : List ℕ → ℕ → Reading
rest_of bytes at = read_from (length bytes - at) bytes at

-- the area that the bytes are; no bytes have no items
unfoldable pub area : List ℕ → Reading
area bytes = rest_of bytes 0
