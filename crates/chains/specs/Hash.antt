-- The hashes, with secret words: the sum of the products of pieces of 22 bits with the words, twelve bits of it from bit 20 on.
-- They decide nothing: what a chain holds is compared whole. They only say which chain is walked.
-- Assumes nothing.
use Rattle.std.specs.Prelude.{List, ℕ, ◌+◌, ◌*◌, ◌/◌, ◌%◌, get_or}

-- the three pieces of a word, each times its secret word
unfoldable pub products_of : ℕ → ℕ → ℕ → ℕ → ℕ
products_of w0 w1 w2 x = w0 * (x % 4194304) + w1 * (x / 4194304 % 4194304) + w2 * (x / 17592186044416)

-- the hash of a key of two words
unfoldable pub key_hash : List ℕ → ℕ → ℕ → ℕ
key_hash secret a b =
    (products_of (get_or secret 0 0) (get_or secret 1 0) (get_or secret 2 0) a + products_of (get_or secret 3 0) (get_or secret 4 0) (get_or secret 5 0) b)
    / 1048576 % 4096

-- the hash of a number of 32 bits
unfoldable pub number_hash : List ℕ → ℕ → ℕ
number_hash secret n = (get_or secret 0 0 * (n % 4194304) + get_or secret 6 0 * (n / 4194304)) / 1048576 % 4096
