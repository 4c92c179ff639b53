-- Unsigned and signed samples as u64 words, signed ones in two's complement: one set of names, with a flag for the kind.
-- Assumes nothing.
use Rattle.std.specs.Prelude.{ℕ, ◌+◌, ◌-◌, ◌%◌, ◌^◌, Bool, true, false, nat_lt}
use Rattle.buckets.specs.Buckets.{pick, index, value}

-- the bucket of zero among the signed ones, which is the index of 2^63
abbrev pub signed_zero : ℕ
signed_zero = 7296

-- how many buckets there are: 7,424 unsigned, 14,593 signed
abbrev pub bucket_count : Bool → ℕ
bucket_count false = 7424
bucket_count true = 14593

-- the magnitude of a word: a signed word from 2^63 on is minus what it lacks to 2^64
abbrev pub magnitude : Bool → ℕ → ℕ
magnitude false w = w
magnitude true w = pick (nat_lt w (2 ^ 63)) w (2 ^ 64 - w)

-- a number that orders the words as the values they stand for, and is as far from another as they are: signed, the value plus 2^63,
-- so that -2^63 has 0
abbrev pub order : Bool → ℕ → ℕ
order false w = w
order true w = (w + 2 ^ 63) % 2 ^ 64

-- how far apart the values of two words are
abbrev pub gap : Bool → ℕ → ℕ → ℕ
gap s a b = (order s a - order s b) + (order s b - order s a)

-- the bucket of a word; the signed index is 7,296 plus or minus that of the magnitude
abbrev pub index_of : Bool → ℕ → ℕ
index_of false w = index w
index_of true w = pick (nat_lt w (2 ^ 63)) (signed_zero + index w) (signed_zero - index (2 ^ 64 - w))

-- the word that a bucket shows
abbrev pub value_of : Bool → ℕ → ℕ
value_of false i = value i
value_of true i = pick (nat_lt i signed_zero) (2 ^ 64 - value (signed_zero - i)) (value (i - signed_zero))
