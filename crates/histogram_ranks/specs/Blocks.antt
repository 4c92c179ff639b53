-- Where a block lies in the room. Assumes nothing.
use Rattle.std.specs.Prelude.{Bool, ℕ, ◌+◌, ltb}
use Rattle.limits.specs.Limits.{capacity}
use Rattle.buckets.specs.Buckets.{pick}
use Rattle.buckets.specs.Signed.{bucket_count}

-- the word behind a block that begins at a word: 128 on, or where the buckets end
abbrev pub block_end : Bool → ℕ → ℕ
block_end s from = pick (ltb (from + 128) (capacity + bucket_count s)) (from + 128) (capacity + bucket_count s)
