-- What the code's own steps speak of: a part of the padding against as much of the pattern, and a pattern that is written down again and
-- again. Assumes nothing.
use Rattle.std.specs.Prelude.{◌≡◌, List, [], ◌∷◌, ℕ, ◌<◌, get_or}
use Rattle.std.specs.Int.Bits.{bit_xor}
use Rattle.bit_errors.specs.Errors.{repeated}

-- two rows of bytes against each other, as far as the shorter goes
unfoldable pub differing : List ℕ → List ℕ → List ℕ
differing [] qs = []
differing (p ∷ ps) [] = []
differing (p ∷ ps) (q ∷ qs) = bit_xor p q ∷ differing ps qs

-- the first `size` bytes of a room are those of the pattern repeated
abbrev pub Repeats : (room pattern : List ℕ) (size : ℕ) → Type 0
Repeats room pattern size = (i : ℕ) → i < size → get_or room i 0 ≡ repeated pattern i
