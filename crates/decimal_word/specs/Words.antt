-- A number that a word of a command line says: digits and nothing else, at least one, and not above a bound. Assumes nothing.
use Rattle.std.specs.Prelude.{Bool, true, ◌&&◌, cond, List, [], ◌∷◌, ℕ, eqb, leb, length, Option, Some, None}
use Rattle.decimal.specs.Decimal.{value_of}

-- every byte is a digit, '0' to '9'
abbrev pub all_digits : List ℕ → Bool
all_digits [] = true
all_digits (b ∷ bs) = leb 48 b && leb b 57 && all_digits bs

-- the number that digits say, where it is not above a bound
unfoldable pub within : List ℕ → (most : ℕ) → Option ℕ
within w most = cond (leb (value_of w) most) (Some (value_of w)) None

-- of any word: no byte at all, and any byte that is no digit, is wrong
unfoldable pub word_of : List ℕ → (most : ℕ) → Option ℕ
word_of w most = cond (eqb (length w) 0) None (cond (all_digits w) (within w most) None)

-- a number of 16 bits, where the word says one
abbrev pub small_by : Option ℕ → Option ℕ
small_by (Some n) = Some n
small_by None = None

-- what a word says, of 16 bits
unfoldable pub small_of : List ℕ → Option ℕ
small_of w = small_by (word_of w 65535)
