-- Bits as a plain list, the highest of each byte first: how many are ones, and how long the longest run of ones is. Assumes nothing.
use Rattle.std.specs.Prelude.{List, [], ◌∷◌, ◌++◌, ℕ, zero, suc, ◌+◌, ◌/◌, ◌%◌, ◌^◌, max}

-- the k lowest binary digits of a number, the highest first
unfoldable pub bits_of : (k n : ℕ) → List ℕ
bits_of zero n = []
bits_of (suc k) n = n / 2 ^ k % 2 ∷ bits_of k n

-- the bits of bytes, one byte after the other
unfoldable pub all_bits : List ℕ → List ℕ
all_bits [] = []
all_bits (b ∷ bs) = bits_of 8 b ++ all_bits bs

-- how many bits are ones
unfoldable pub ones_of : List ℕ → ℕ
ones_of [] = 0
ones_of (b ∷ bs) = b + ones_of bs

-- the longest run of ones, where r ones stand before the first bit
unfoldable pub longest_from : (r : ℕ) → List ℕ → ℕ
longest_from r [] = r
longest_from r (zero ∷ bs) = max r (longest_from 0 bs)
longest_from r (suc b ∷ bs) = longest_from (suc r) bs

-- the longest run of ones
abbrev pub longest : List ℕ → ℕ
longest = longest_from 0

-- the run of ones at the end, where r ones stand before the first bit
unfoldable pub ending_run : (r : ℕ) → List ℕ → ℕ
ending_run r [] = r
ending_run r (zero ∷ bs) = ending_run 0 bs
ending_run r (suc b ∷ bs) = ending_run (suc r) bs
