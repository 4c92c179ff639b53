-- An entry of a burst, "a key with or without its pending packet", and its row of the answers, in the words that a host lends. Any words are an entry
-- and a row. Assumes nothing.
use Rattle.std.specs.Prelude.{List, [], ◌∷◌, ℕ, zero, suc, get_or}
use Rattle.call_types.specs.declared.Reply.{Reply}
use Rattle.host_numbers.specs.Numbers.{lower, upper}
use Rattle.host_calls.specs.Calls.{reply_of}

-- words of an entry: 0 T3; 1 the sender's number in the lower half, the reflector's in the upper; 2 not 0 where a packet is pending; 3, 4 its time and tag
abbrev pub reply_at : List ℕ → Reply
reply_at e = reply_of (lower (get_or e 1 0)) (upper (get_or e 1 0)) (get_or e 0 0) (get_or e 2 0) (get_or e 3 0) (get_or e 4 0)

-- the words of the single call's answer in a row: the six behind the entry's number
abbrev pub answer_in : List ℕ → List ℕ
answer_in row = get_or row 1 0 ∷ get_or row 2 0 ∷ get_or row 3 0 ∷ get_or row 4 0 ∷ get_or row 5 0 ∷ get_or row 6 0 ∷ []

-- a row of a served entry: 0, and the words of the answer
abbrev pub served_row : List ℕ → List ℕ
served_row words = 0 ∷ get_or words 0 0 ∷ get_or words 1 0 ∷ get_or words 2 0 ∷ get_or words 3 0 ∷ get_or words 4 0 ∷ get_or words 5 0 ∷ []

-- a row of an entry that is refused: its number; the words behind it stay
abbrev pub refused_row : List ℕ → ℕ → List ℕ
refused_row row n = n ∷ answer_in row

-- a row after a call for its entry, of the call's number and its answer's words
abbrev pub row_after : List ℕ → ℕ → List ℕ → List ℕ
row_after row zero words = served_row words
row_after row (suc n) words = refused_row row (suc n)
