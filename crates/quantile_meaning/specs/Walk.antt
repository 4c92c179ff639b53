-- A percentile by the full walk: document 01's, over all buckets and no totals. Assumes nothing.
use Rattle.std.specs.Prelude.{List, ℕ, ◌-◌, leb, eqb, Float}
use Rattle.limits.specs.Limits.{capacity}
use Rattle.rank.specs.Rank.{rank_of}
use Rattle.exact_rank.specs.Rank.{at_rank}
use Rattle.buckets.specs.Buckets.{pick}
use Rattle.buckets.specs.Signed.{order, value_of}
use Rattle.histogram.specs.Histogram.{bucket_at}
use Rattle.quantiles.specs.declared.Quantiles.{Quantiles}
use Rattle.quantile_room.specs.Room.{buckets}
use Rattle.histogram_ranks.specs.Ranks.{clamped}

-- histogram: rank 0 is the minimum, the last the maximum, else the value of the first bucket with which all counts from bucket 0 on,
-- added up, pass the rank, clamped to both
unfoldable pub walked_value : Quantiles → List ℕ → ℕ → ℕ
walked_value q room r =
    pick (eqb r 0) q.min (pick (eqb r (q.count - 1)) q.max (clamped q.signed (value_of q.signed (bucket_at (buckets q.signed room) r)) q.min q.max))

-- up to 4,096 the sample of the rank in sorted order
unfoldable pub walked : Quantiles → List ℕ → Float → ℕ
unfolding walked_value
walked q room p = pick (leb q.count capacity) (at_rank (order q.signed) room q.count (rank_of p q.count)) (walked_value q room (rank_of p q.count))
