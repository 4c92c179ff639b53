-- Keys of accepted replies, and how a row of the room holds one: [sender · 2^32 + reflector, T3].
-- Assumes nothing.
use Rattle.std.specs.Prelude.{Bool, false, ◌||◌, ◌&&◌, List, [], ◌∷◌, ℕ, ◌+◌, ◌*◌, ◌/◌, ◌%◌, eqb, get_or}
use Rattle.call_types.specs.declared.ReplyKey.{ReplyKey}

-- the key of a row
abbrev pub key_of : List ℕ → ReplyKey
key_of row = record { sender = get_or row 0 0 / 4294967296; reflector = get_or row 0 0 % 4294967296; t3 = get_or row 1 0 }

-- the key of a slot
abbrev pub key_at : List (List ℕ) → ℕ → ReplyKey
key_at keys slot = key_of (get_or keys slot [])

-- both sequence numbers of a key in one word
abbrev pub numbers_of : ReplyKey → ℕ
numbers_of k = k.sender * 4294967296 + k.reflector

-- the row of a key
abbrev pub key_row : ReplyKey → List ℕ
key_row k = numbers_of k ∷ k.t3 ∷ []

-- all three parts are equal
abbrev pub same_key : ReplyKey → ReplyKey → Bool
same_key a b = eqb a.sender b.sender && eqb a.reflector b.reflector && eqb a.t3 b.t3

-- a key is among these
unfoldable pub has_key : List ReplyKey → ReplyKey → Bool
has_key [] k = false
has_key (x ∷ xs) k = same_key k x || has_key xs k

-- the newest of these is this key
abbrev pub first_is : List ReplyKey → ReplyKey → Bool
first_is [] k = false
first_is (x ∷ xs) k = same_key k x
