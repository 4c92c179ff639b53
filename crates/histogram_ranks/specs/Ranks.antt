-- What a histogram shows for a rank, and which of its blocks no `record` leaves. Assumes nothing.
use Rattle.std.specs.Prelude.{Bool, not, ◌&&◌, ◌||◌, List, ℕ, ◌+◌, ◌-◌, ◌*◌, ltb, eqb, get_or, take, drop}
use Rattle.buckets.specs.Buckets.{pick}
use Rattle.buckets.specs.Signed.{order, value_of}
use Rattle.histogram.specs.Histogram.{total, bucket_at, left_at}
use Rattle.quantiles.specs.declared.Quantiles.{Quantiles}
use Rattle.quantile_room.specs.Room.{buckets, totals}

-- the block that holds a rank: the first with which the totals, added up, pass the rank
abbrev pub block_at : Quantiles → List ℕ → ℕ → ℕ
block_at q room r = bucket_at (totals q.signed room) r

-- the buckets of a block: 128, or what is left
abbrev pub block : Bool → List ℕ → ℕ → List ℕ
block s room k = take 128 (drop (128 * k) (buckets s room))

-- a block that no `record` leaves: its buckets do not add up to its total, or the signed bucket 14,592 is in it and not zero
unfoldable pub lies : Bool → List ℕ → ℕ → Bool
lies s room k = not (eqb (total (block s room k)) (get_or (totals s room) k 0)) || ((s && eqb k 114) && not (eqb (get_or (buckets s room) 14592 0) 0))

-- the bucket of a rank: its block by the totals, then the bucket by those of the block
abbrev pub bucket_of : Quantiles → List ℕ → ℕ → ℕ
bucket_of q room r = 128 * block_at q room r + bucket_at (block q.signed room (block_at q room r)) (left_at (totals q.signed room) r)

-- a word put between two others, in the order of the values
unfoldable pub clamped : Bool → ℕ → ℕ → ℕ → ℕ
clamped s x low high = pick (ltb (order s x) (order s low)) low (pick (ltb (order s high) (order s x)) high x)

-- histogram: rank 0 is the minimum, the last the maximum, else the bucket value clamped to both
unfoldable pub histogram_value : Quantiles → List ℕ → ℕ → ℕ
unfolding clamped
histogram_value q room r =
    pick (eqb r 0) q.min (pick (eqb r (q.count - 1)) q.max (clamped q.signed (value_of q.signed (bucket_of q room r)) q.min q.max))
