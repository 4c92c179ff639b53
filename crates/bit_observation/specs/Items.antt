-- An item of the extension area in one word, the highest byte first: flags, type, two bytes of length, four of where its value begins.
-- Assumes nothing.
use Rattle.std.specs.Prelude.{◌≡◌, Bool, true, false, ◌&&◌, ◌||◌, List, [], ◌∷◌, ℕ, ◌-◌, ◌/◌, ◌%◌, ◌^◌, ◌≤◌, eqb, length, take, drop}
use Rattle.bit_observation.specs.declared.Part.{Part}

-- a bit of the word: U, unrecognized, is 63; M, malformed, 62; I, integrity failed, 61; C, conformant reflected, 60
abbrev pub flag_of : ℕ → ℕ → Bool
flag_of bit word = eqb (word / 2 ^ bit % 2) 1

-- its type
abbrev pub kind_of : ℕ → ℕ
kind_of word = word / 2 ^ 48 % 256

-- its length
abbrev pub length_of : ℕ → ℕ
length_of word = word / 2 ^ 32 % 65536

-- where its value begins
abbrev pub start_of : ℕ → ℕ
start_of word = word % 2 ^ 32

-- the bytes of the value, as far as there are bytes
unfoldable pub value_of : List ℕ → ℕ → List ℕ
value_of bytes word = take (length_of word) (drop (start_of word) bytes)

-- they lie from one place up to another
pub record PartOf (bytes : List ℕ) (word : ℕ) (p : Part) : Type 0 where
  pub order : p.from ≤ p.end
  pub inside : p.end ≤ length bytes
  pub value : take (p.end - p.from) (drop p.from bytes) ≡ value_of bytes word

-- two lists of bytes are equal
unfoldable pub same_bytes : List ℕ → List ℕ → Bool
same_bytes [] [] = true
same_bytes [] (b ∷ m) = false
same_bytes (a ∷ l) [] = false
same_bytes (a ∷ l) (b ∷ m) = eqb a b && same_bytes l m

-- the types: 1 extra padding, 8 HMAC, 240 pattern, 241 count, 242 burst
abbrev pub is_ber : ℕ → Bool
is_ber kind = eqb kind 240 || eqb kind 241 || eqb kind 242

-- a type that bit errors are read from
abbrev pub is_ours : ℕ → Bool
is_ours kind = is_ber kind || eqb kind 1
