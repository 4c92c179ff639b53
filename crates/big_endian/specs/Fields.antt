-- A record of bytes as a table of fields: each has a width, a place and a value. Assumes nothing.
use Rattle.std.specs.Prelude.{Bool, true, ◌||◌, ◌&&◌, List, [], ◌∷◌, ℕ, ◌+◌, ◌^◌, leb}
use Rattle.big_endian.specs.Numbers.{put}

-- 2 ^ width bytes from a place on, and the number that stands there
pub record Field : Type 0 where
  pub width : ℕ
  pub at : ℕ
  pub value : ℕ

-- a field of one byte: its place, and its value
abbrev pub byte : (at value : ℕ) → Field
byte at v = record { width = 0; at = at; value = v }

-- a field of two bytes
abbrev pub bytes2 : (at value : ℕ) → Field
bytes2 at v = record { width = 1; at = at; value = v }

-- a field of four bytes
abbrev pub bytes4 : (at value : ℕ) → Field
bytes4 at v = record { width = 2; at = at; value = v }

-- a field of eight bytes
abbrev pub bytes8 : (at value : ℕ) → Field
bytes8 at v = record { width = 3; at = at; value = v }

-- the bytes with every field of the table written over them
abbrev pub written : List Field → List ℕ → List ℕ
written [] bs = bs
written (f ∷ fs) bs = written fs (put f.width bs f.at f.value)

-- two fields share no byte
abbrev pub apart : Field → Field → Bool
apart f g = leb (f.at + 2 ^ f.width) g.at || leb (g.at + 2 ^ g.width) f.at

-- a field shares no byte with any field of the table
abbrev pub apart_from : Field → List Field → Bool
apart_from f [] = true
apart_from f (g ∷ gs) = apart f g && apart_from f gs

-- no two fields of the table share a byte, and each ends within n bytes
abbrev pub laid_out : ℕ → List Field → Bool
laid_out n [] = true
laid_out n (f ∷ fs) = leb (f.at + 2 ^ f.width) n && (apart_from f fs && laid_out n fs)
