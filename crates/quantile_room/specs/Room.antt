-- The room that quantiles are lent, and where its parts lie. Document 01, "Estimates and percentiles"; document 02, Q-7. Assumes nothing.
use Rattle.std.specs.Prelude.{Bool, true, false, ◌||◌, List, [], ◌∷◌, ℕ, ◌+◌, ◌-◌, ◌/◌, ◌^◌, eqb, length, get_or, take, drop}
use Rattle.limits.specs.Limits.{capacity}
use Rattle.buckets.specs.Signed.{bucket_count, index_of}

-- the first 4,096 words of a room: the samples
abbrev pub samples : List ℕ → List ℕ
samples room = take capacity room

-- how many blocks of 128 buckets there are: 58 unsigned, 115 signed, the last signed block short
abbrev pub block_count : Bool → ℕ
block_count false = 58
block_count true = 115

-- how many words a room has: 4,096 samples, a word for each bucket, a word for each block
abbrev pub room_size : Bool → ℕ
room_size s = capacity + bucket_count s + block_count s

-- the words from 4,096 on: the buckets
abbrev pub buckets : Bool → List ℕ → List ℕ
buckets s room = take (bucket_count s) (drop capacity room)

-- the words behind the buckets: the totals of the blocks
abbrev pub totals : Bool → List ℕ → List ℕ
totals s room = drop (capacity + bucket_count s) room

-- the block of a word: that of its bucket
abbrev pub block_of : Bool → ℕ → ℕ
block_of s w = index_of s w / 128

-- a room of the right size
abbrev pub sized : Bool → List ℕ → Bool
sized s room = eqb (length room) (room_size s)

-- a bucket, or the total of its block, that has no room for one more
abbrev pub full_at : Bool → List ℕ → ℕ → Bool
full_at s room place = eqb (get_or (buckets s room) place 0) (2 ^ 64 - 1) || eqb (get_or (totals s room) (place / 128) 0) (2 ^ 64 - 1)
