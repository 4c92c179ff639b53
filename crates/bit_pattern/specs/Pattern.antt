-- `parse_pattern` of src/ber.rs over the bytes of a text, which need not be UTF-8. Assumes nothing.
use Rattle.std.specs.Prelude.{Bool, true, ◌&&◌, ◌||◌, not, cond, List, [], ◌∷◌, ◌++◌, ℕ, ◌+◌, ◌-◌, ◌*◌, ◌/◌, ◌%◌, ltb, eqb, length, get_or, drop, Result, Ok, Err}
use Rattle.limits.specs.declared.Refusal.{Refusal}
use Rattle.limits.specs.declared.Refusal.TheVariants as refusal

-- the value of a hexadecimal digit, '0' to '9', 'A' to 'F', 'a' to 'f'; 16 for any other byte
unfoldable pub digit_of : ℕ → ℕ
digit_of b =
    cond (ltb b 48) 16
    (cond (ltb b 58) (b - 48)
    (cond (ltb b 65) 16
    (cond (ltb b 71) (b - 55)
    (cond (ltb b 97) 16
    (cond (ltb b 103) (b - 87) 16)))))

-- the text behind one leading `0x`, with a small x, if it has one
unfoldable pub after_prefix : List ℕ → List ℕ
after_prefix text = cond (eqb (get_or text 0 0) 48 && eqb (get_or text 1 0) 120) (drop 2 text) text

-- every character is a digit
unfoldable pub all_digits : List ℕ → Bool
all_digits [] = true
all_digits (b ∷ bs) = ltb (digit_of b) 16 && all_digits bs

-- two digits to a byte, the first the higher
unfoldable pub bytes_of : List ℕ → List ℕ
bytes_of [] = []
bytes_of (a ∷ []) = []
bytes_of (a ∷ b ∷ bs) = (digit_of a * 16 + digit_of b) ∷ bytes_of bs

-- what a call comes to: how many bytes were written, or why none, and the room
pub record Outcome : Type 0 where
  pub answer : Result ℕ Refusal
  pub room : List ℕ

-- an answer, with what the room then holds
abbrev pub outcome : Result ℕ Refusal → List ℕ → Outcome
outcome a room = record { answer = a; room = room }

-- empty, an odd number of digits, or a character that is not hexadecimal
abbrev pub bad : List ℕ → Bool
bad digits = eqb (length digits) 0 || eqb (length digits % 2) 1 || not (all_digits digits)

-- refused for bad digits, then for too short a room; else the bytes stand at the start of the room, and the rest of it stays
unfoldable pub decoded : (digits room : List ℕ) → Outcome
decoded digits room =
    cond (bad digits) (outcome (Err refusal.BadPattern) room)
    (cond (ltb (length room) (length digits / 2)) (outcome (Err refusal.ShortRoom) room)
    (outcome (Ok (length digits / 2)) (bytes_of digits ++ drop (length digits / 2) room)))

-- the digits of a text are what stands behind its prefix
unfoldable pub parsed : (text room : List ℕ) → Outcome
parsed text room = decoded (after_prefix text) room
