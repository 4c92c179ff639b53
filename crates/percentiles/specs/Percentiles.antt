-- `percentiles`: what a call answers and shows, for every state, room, list of percentiles and lent answer. Assumes nothing.
use Rattle.std.specs.Prelude.{Bool, true, false, not, ◌&&◌, ◌||◌, List, [], ◌∷◌, map, ℕ, ltb, leb, eqb, Float, length, Result, Ok, Err}
use Rattle.limits.specs.Limits.{capacity}
use Rattle.limits.specs.declared.Refusal.{Refusal}
use Rattle.limits.specs.declared.Refusal.TheVariants as refusal
use Rattle.limits.specs.Numbers.{number_of}
use Rattle.rank.specs.Rank.{rank_of}
use Rattle.exact_rank.specs.Rank.{at_rank}
use Rattle.buckets.specs.Buckets.{pick}
use Rattle.buckets.specs.Signed.{order}
use Rattle.histogram.specs.Histogram.{total}
use Rattle.quantiles.specs.declared.Quantiles.{Quantiles}
use Rattle.quantile_room.specs.Room.{totals, sized}
use Rattle.quantiles.specs.State.{crossed}
use Rattle.histogram_ranks.specs.Ranks.{block_at, lies, histogram_value}

-- what a call leaves: the refusal's number, or 0; whether there are values; the lent answer
pub record Outcome : Type 0 where
  pub number : ℕ
  pub values : Bool
  pub shown : List ℕ

-- document 01's number and values for each case of the answer
unfoldable pub outcome : Result Bool Refusal → List ℕ → Outcome
outcome (Err r) shown = record { number = number_of r; values = false; shown = shown }
outcome (Ok values) shown = record { number = 0; values = values; shown = shown }

-- the block of a percentile's rank is such a one, whatever the rank
unfoldable pub any_lies : Quantiles → List ℕ → List Float → Bool
unfolding lies
any_lies q room [] = false
any_lies q room (p ∷ ps) = lies q.signed room (block_at q room (rank_of p q.count)) || any_lies q room ps

-- a histogram that no `record` leaves, so far as it is read: the totals do not add up to the count, or a block that is read lies
unfoldable pub spoilt : Quantiles → List ℕ → List Float → Bool
unfolding any_lies
spoilt q room ps = not (eqb (total (totals q.signed room)) q.count) || any_lies q room ps

-- refusal 5 of `percentiles`; a lent answer has a word for each percentile
unfoldable pub refuses : Quantiles → List ℕ → List Float → List ℕ → Bool
unfolding spoilt
refuses q room ps shown =
    not (sized q.signed room) || (not (eqb (length shown) (length ps)) || (crossed q || (ltb capacity q.count && spoilt q room ps)))

-- the value of a rank: up to 4,096 the sample of that rank in sorted order
unfoldable pub value_at : Quantiles → List ℕ → ℕ → ℕ
unfolding histogram_value
value_at q room r = pick (leb q.count capacity) (at_rank (order q.signed) room q.count r) (histogram_value q room r)

-- the value of a percentile is that of its rank
unfoldable pub percentile : Quantiles → List ℕ → Float → ℕ
unfolding value_at
percentile q room p = value_at q room (rank_of p q.count)

-- the one outcome or the other, by a test
abbrev pub pick_outcome : Bool → Outcome → Outcome → Outcome
pick_outcome true a b = a
pick_outcome false a b = b

-- 5 is tested first; no samples have no value
unfoldable pub percentiles_of : Quantiles → List ℕ → List Float → List ℕ → Outcome
unfolding refuses percentile outcome
percentiles_of q room ps shown =
    pick_outcome (refuses q room ps shown) (outcome (Err refusal.WrongRoom) shown) (pick_outcome (eqb q.count 0) (outcome (Ok false) shown) (outcome (Ok true) (map (percentile q room) ps)))
