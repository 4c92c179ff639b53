-- The totals of the blocks of counted samples, and the search by them. Assumes nothing.
use mathlib.Core.Path.{◌≡◌, refl, sym, ◌∙◌, ap, ap₂, subst}
use mathlib.Core.Bool.{Bool, true, false}
use mathlib.Core.List.{List, [], ◌∷◌}
use mathlib.Core.Logic.{⊎_elim}
use Prim.Native.Nat.{ℕ, ◌+◌, ◌-◌, ◌*◌, ◌/◌, ◌^◌, ◌≤◌, ◌<◌}
use native.Mathlib.Nat.{le_trans, le_of_eq, le_antisymm, lt_of_lt_of_le, min-le_left}
use native.Mathlib.Omega.{arith}
use lib.ListN.{length, get_or, take, drop, length-take}
use lib.Seq.{take_all}
use Rattle.buckets.specs.Buckets.{index}
use Rattle.buckets.specs.Signed.{bucket_count, signed_zero, index_of}
use Rattle.buckets.proofs.Facts.{lt_or_ge, index_below}
use Rattle.buckets.proofs.SignedFacts.{index_of-below, index-low, index-high}
use Rattle.exact_rank.specs.Counting.{below}
use Rattle.exact_rank.proofs.Counting.{one_below}
use Rattle.histogram.specs.Histogram.{total, bucket_at, left_at}
use Rattle.histogram.proofs.Sums.{at-below}
use Rattle.histogram.proofs.Blocks.{at-within, block-total, by_blocks}
use Rattle.quantiles.specs.declared.Quantiles.{Quantiles}
use Rattle.quantile_room.specs.Room.{block_count, block_of}
use Rattle.quantiles.specs.Record.{filled_buckets, filled_totals}
use Rattle.quantile_room.proofs.Places.{block-below}
use Rattle.quantiles.proofs.Tally.{filled-length}
use Rattle.histogram_ranks.specs.Ranks.{bucket_of}
use Rattle.quantile_meaning.specs.Words.{Words, more}
use Rattle.quantile_meaning.proofs.Buckets.{filled-total, below_by}
use Rattle.quantile_meaning.proofs.Growth.{Holds}

-- where every word has its place below k, all samples have
below-words : (f : ℕ → ℕ) (k : ℕ) (vs : List ℕ) → Words vs → ((v : ℕ) → v < 2 ^ 64 → f v < k) → below f k vs ≡ length vs
unfolding below
below-words f k [] w inside = refl
below-words f k (v ∷ vs) (more h w) inside = omega (arith, one_below (f v) k (inside v h), below-words f k vs w inside)

-- 58 unsigned blocks, 115 signed ones: none too few, none too many
cover : (s : Bool) → bucket_count s ≤ 128 * block_count s
cover true = omega arith
cover false = omega arith

short : (s : Bool) → 128 * block_count s ≤ bucket_count s + 127
short true = omega arith
short false = omega arith

-- no word has the signed bucket 14,592
signed_below : (v : ℕ) → v < 2 ^ 64 → index_of true v < 14592
signed_below v h = ⊎_elim low high (lt_or_ge v (2 ^ 63))
  where
    low : v < 2 ^ 63 → index_of true v < 14592
    low l = subst (λ (x : ℕ). x < 14592) (sym (index-low v l)) (sum (index v) (index_below 63 v (omega arith) l))
      where
        sum : (x : ℕ) → x < 128 * (63 - 6) → signed_zero + x < 14592
        sum x h = omega arith

    high : 2 ^ 63 ≤ v → index_of true v < 14592
    high l = subst (λ (x : ℕ). x < 14592) (sym (index-high v l)) (less (index (2 ^ 64 - v)))
      where
        less : (x : ℕ) → signed_zero - x < 14592
        less x = omega arith

module _ (s : Bool) (vs : List ℕ) (w : Words vs) where
  block_inside : (v : ℕ) → v < 2 ^ 64 → block_of s v < block_count s
  block_inside v h = block-below s (index_of s v) (index_of-below s v h)

  -- the first k totals have what the first k blocks have
  sums : (k : ℕ) → total (take k (filled_totals s vs)) ≡ total (take (128 * k) (filled_buckets s vs))
  sums k =
      filled-total (block_of s) (block_count s) vs k block_inside w
      ∙ le_antisymm (below_by (block_of s) (index_of s) k (128 * k) vs w (λ v h l. up (index_of s v) l)) (below_by (index_of s) (block_of s) (128 * k) k vs w (λ v h l. down (index_of s v) l))
      ∙ sym (filled-total (index_of s) (bucket_count s) vs (128 * k) (index_of-below s) w)
    where
      up : (x : ℕ) → x / 128 < k → x < 128 * k
      up x l = omega arith

      down : (x : ℕ) → x < 128 * k → x / 128 < k
      down x l = omega arith

  covers : length (filled_buckets s vs) ≤ 128 * length (filled_totals s vs)
  covers =
      subst (λ (n : ℕ). n ≤ 128 * length (filled_totals s vs)) (sym (filled-length (index_of s) (bucket_count s) vs))
      (subst (λ (n : ℕ). bucket_count s ≤ 128 * n) (sym (filled-length (block_of s) (block_count s) vs)) (cover s))

  shorts : 128 * length (filled_totals s vs) ≤ length (filled_buckets s vs) + 127
  shorts =
      subst (λ (n : ℕ). 128 * length (filled_totals s vs) ≤ n + 127) (sym (filled-length (index_of s) (bucket_count s) vs))
      (subst (λ (n : ℕ). 128 * n ≤ bucket_count s + 127) (sym (filled-length (block_of s) (block_count s) vs)) (short s))

  -- the totals add up to the count
  pub all_counted : total (filled_totals s vs) ≡ length vs
  all_counted =
      ap total (sym (take_all (block_count s) (filled_totals s vs) (le_of_eq (filled-length (block_of s) (block_count s) vs))))
      ∙ filled-total (block_of s) (block_count s) vs (block_count s) block_inside w ∙ below-words (block_of s) (block_count s) vs w block_inside

  -- the block of a rank
  pub rank-block : (r : ℕ) → r < length vs → bucket_at (filled_totals s vs) r < length (filled_totals s vs)
  rank-block r l = at-below (filled_totals s vs) r (subst (λ (n : ℕ). r < n) (sym all_counted) l)

  -- its buckets add up to its total
  pub block_adds_up : (k : ℕ) → k < length (filled_totals s vs) → total (take 128 (drop (128 * k) (filled_buckets s vs))) ≡ get_or (filled_totals s vs) k 0
  block_adds_up k l = block-total (filled_buckets s vs) (filled_totals s vs) covers shorts (λ k h. sums k) k l

  -- and the search by blocks finds the bucket of the full walk
  pub search_is_walk : (r : ℕ) → r < length vs
      → 128 * bucket_at (filled_totals s vs) r + bucket_at (take 128 (drop (128 * bucket_at (filled_totals s vs) r) (filled_buckets s vs))) (left_at (filled_totals s vs) r) ≡ bucket_at (filled_buckets s vs) r
  search_is_walk r l = sym (by_blocks (filled_buckets s vs) (filled_totals s vs) covers shorts (λ k h. sums k) r (subst (λ (n : ℕ). r < n) (sym all_counted) l))

-- no rank of a signed series is in the block of bucket 14,592
pub before_the_last : (vs : List ℕ) → Words vs → (r : ℕ) → r < length vs → bucket_at (filled_totals true vs) r < 114
before_the_last vs w r l =
    subst (λ (x : ℕ). x < 114) (sym (at-within 114 (filled_totals true vs) r among))
    (lt_of_lt_of_le (at-below (take 114 (filled_totals true vs)) r among) (le_trans (le_of_eq (length-take 114 (filled_totals true vs))) (min-le_left 114 (length (filled_totals true vs)))))
  where
    among : r < total (take 114 (filled_totals true vs))
    among =
        subst (λ (n : ℕ). r < n)
        (sym (filled-total (block_of true) 115 vs 114 (block_inside true vs w) w ∙ below-words (block_of true) 114 vs w (λ v h. down (index_of true v) (signed_below v h)))) l
      where
        down : (x : ℕ) → x < 14592 → x / 128 < 114
        down x h = omega arith

-- in a room that holds the samples the search finds the bucket of the full walk, for every rank
pub held_bucket : (vs : List ℕ) (q : Quantiles) (room : List ℕ) (r : ℕ) → Holds vs q room → Words vs → 4096 < length vs → r < length vs → bucket_of q room r ≡ bucket_at (filled_buckets q.signed vs) r
held_bucket vs q room r h w l b =
    ap₂ (λ (x t : List ℕ). 128 * bucket_at t r + bucket_at (take 128 (drop (128 * bucket_at t r) x)) (left_at t r)) (h.counted l) (h.totalled l) ∙ search_is_walk q.signed vs w r b
