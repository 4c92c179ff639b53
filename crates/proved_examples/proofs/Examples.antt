-- Document 01, "Proved examples": the whole list, in its order, over the definitions that the contracts cite. Assumes nothing.
use Rattle.std.specs.Prelude.{Some}
use mathlib.Core.Path.{◌≡◌}
use mathlib.Core.Bool.{true}
use Prim.Native.Nat.{◌-◌, ◌^◌}
use lib.IntN.{pos}
use lib.Ieee.{binary64, of_int}
use Rattle.buckets.specs.Buckets.{index, value}
use Rattle.buckets.specs.Signed.{index_of}
use Rattle.buckets.proofs.Examples.{example_1, example_2, example_3, example_4, example_5}
use Rattle.rank.specs.Rank.{rank_of, example_6}
use Rattle.direct.specs.Shown.{summary_of}
use Rattle.direct.specs.Examples.{second, third, example_7, example_8}

-- (1) index 255 is 255; (2) 511 is 383, shown 510; (3) 1,003 is 506, shown 1,000; (4) 2^64-1 is 7,423; (5) -2^63 is signed 0;
-- (6) count 2, p 50, rank 1; (7) anchor (10,10,10), then (12,12,13): forward 0, reverse 2; (8) then (11,11,11): reordered, reverse 1
pub examples-1-to-8 :
    (index 255 ≡ 255)
    × ((index 511 ≡ 383) × (value 383 ≡ 510))
    × ((index 1003 ≡ 506) × (value 506 ≡ 1000))
    × (index (2 ^ 64 - 1) ≡ 7423)
    × (index_of true (2 ^ 63) ≡ 0)
    × (rank_of (of_int binary64 (pos 50)) 2 ≡ 1)
    × (((summary_of second).spans.forward ≡ Some 0) × ((summary_of second).spans.reverse ≡ Some 2))
    × (((summary_of third).counts.reordered ≡ 1) × ((summary_of third).spans.reverse ≡ Some 1))
examples-1-to-8 = (example_1, example_2, example_3, example_4, example_5, example_6, example_7, example_8)
