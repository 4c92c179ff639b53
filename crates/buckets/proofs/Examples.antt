-- Document 01's proved examples 1 to 5. Assumes nothing.
use Rattle.std.proofs.Common.{◌≡◌, ℕ, ◌-◌, ◌*◌, ◌/◌, ◌%◌, ◌^◌, true, refl}
use lib.Ieee.{size}
use Rattle.buckets.specs.Buckets.{bit_length, shift_of, index, value}
use Rattle.buckets.specs.Signed.{index_of}

-- (1) index 255 is 255
pub example_1 : index 255 ≡ 255
unfolding index shift_of bit_length size
example_1 = refl

-- (2) 511 is 383, shown 510
pub example_2 : (index 511 ≡ 383) × (value 383 ≡ 510)
unfolding index shift_of bit_length size value
example_2 = (refl, refl)

-- (3) 1,003 is 506, shown 1,000
pub example_3 : (index 1003 ≡ 506) × (value 506 ≡ 1000)
unfolding index shift_of bit_length size value
example_3 = (refl, refl)

-- (4) 2^64-1 is 7,423
pub example_4 : index (2 ^ 64 - 1) ≡ 7423
unfolding index shift_of bit_length size
example_4 = refl

-- (5) -2^63 is signed 0; its word is 2^63
pub example_5 : index_of true (2 ^ 63) ≡ 0
unfolding index shift_of bit_length size
example_5 = refl
