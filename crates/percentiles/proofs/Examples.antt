-- Worked examples: a search by totals, and where the blocks of a room lie. Assumes nothing.
use mathlib.Core.Path.{◌≡◌, refl}
use mathlib.Core.Bool.{true, false}
use mathlib.Core.List.{[], ◌∷◌}
use Prim.Native.Nat.{ℕ, ◌+◌, ◌*◌}
use Rattle.histogram.specs.Histogram.{bucket_at, left_at}
use Rattle.quantile_room.specs.Room.{room_size}
use Rattle.histogram_ranks.specs.Blocks.{block_end}

-- of totals 3, 0 and 5 the third block holds rank 4, and one sample of it lies before that rank
pub search-block : bucket_at (3 ∷ 0 ∷ 5 ∷ []) 4 ≡ 2
unfolding bucket_at
search-block = refl

pub search-left : left_at (3 ∷ 0 ∷ 5 ∷ []) 4 ≡ 1
unfolding left_at
search-left = refl

-- the rooms, as the header has them
pub unsigned_room : room_size false ≡ 11578
unsigned_room = refl

pub signed_room : room_size true ≡ 18804
signed_room = refl

-- the last unsigned block is whole, the last signed one has one bucket, 14,592
pub unsigned_end : block_end false (4096 + 128 * 57) ≡ 11520
unsigned_end = refl

pub signed_end : block_end true (4096 + 128 * 114) ≡ 18689
signed_end = refl

pub signed-last : ◌≡◌ {A = ℕ} (4096 + 128 * 114) 18688
signed-last = refl
