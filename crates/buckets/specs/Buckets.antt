-- The buckets of document 01, "Estimates and percentiles", over plain numbers: no width is put in here.
-- Assumes nothing.
use Rattle.std.specs.Prelude.{ℕ, ◌+◌, ◌-◌, ◌*◌, ◌/◌, ◌%◌, ◌^◌, Bool, true, false, nat_lt}
use Rattle.std.specs.Float.Ieee.{size}

-- the one number or the other, by a test
abbrev pub pick : Bool → ℕ → ℕ → ℕ
pick true a b = a
pick false a b = b

-- how many binary digits a number has: the least k with v < 2 ^ k (laws `length-holds` and `length-least` of proofs/Length.antt)
unfoldable pub bit_length : ℕ → ℕ
bit_length v = size v

-- the bucket shift of a value is its bit length less 8, not below 0
unfoldable pub shift_of : ℕ → ℕ
shift_of v = bit_length v - 8

-- the index is 128·shift plus value >> shift
unfoldable pub index : ℕ → ℕ
index v = 128 * shift_of v + v / 2 ^ shift_of v

-- the value that a bucket shows: the least of those that fall into it
unfoldable pub value : ℕ → ℕ
value i = pick (nat_lt i 256) i ((128 + i % 128) * 2 ^ (i / 128 - 1))
