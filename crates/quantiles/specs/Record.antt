-- `record`: what a call answers and leaves, for every state, room and value. Assumes nothing.
use Rattle.std.specs.Prelude.{Bool, true, false, not, ◌&&◌, ◌||◌, List, [], ◌∷◌, ◌++◌, ℕ, ◌+◌, ◌-◌, ◌^◌, ltb, eqb, get_or, set, replicate, Option, Some, None, Result, Ok, Err}
use Rattle.limits.specs.Limits.{capacity}
use Rattle.limits.specs.declared.Refusal.{Refusal}
use Rattle.limits.specs.Numbers.{number_of}
use Rattle.limits.specs.Refusals.{wrong_room}
use Rattle.buckets.specs.Buckets.{pick}
use Rattle.buckets.specs.Signed.{bucket_count, order, index_of}
use Rattle.histogram.specs.Histogram.{bumped}
use Rattle.quantiles.specs.declared.Quantiles.{Quantiles}
use Rattle.quantile_room.specs.Room.{block_count, samples, buckets, totals, block_of, sized}
use Rattle.quantiles.specs.State.{crossed}

-- what a call leaves: the refusal's number, or 0; Rust's answer; the state; the room
pub record Outcome : Type 0 where
  pub number : ℕ
  pub answer : Bool
  pub state : Quantiles
  pub room : List ℕ

-- a call that changes nothing, with a number and Rust's false
unfoldable pub still : ℕ → Quantiles → List ℕ → Outcome
still n q room = record { number = n; answer = false; state = q; room = room }

-- a sample that was taken: Rust's true, with the state and the room after it
unfoldable pub taken : Quantiles → List ℕ → Outcome
taken q room = record { number = 0; answer = true; state = q; room = room }

-- document 01's number and values for each case of the answer to a call at the state q
unfoldable pub outcome : Quantiles → Result (Option Quantiles) Refusal → List ℕ → Outcome
unfolding still taken
outcome q (Err refusal) room = still (number_of refusal) q room
outcome q (Ok None) room = still 0 q room
outcome q (Ok (Some next)) room = taken next room

-- a bucket or a block total that would pass u64: the value's own, where the room is a histogram already (sample 4,097 zeroes both first)
unfoldable pub passes : Quantiles → List ℕ → ℕ → Bool
passes q room v =
    ltb capacity q.count
    && (eqb (get_or (buckets q.signed room) (index_of q.signed v) 0) (2 ^ 64 - 1) || eqb (get_or (totals q.signed room) (block_of q.signed v) 0) (2 ^ 64 - 1))

-- refusal 5 of `record`
unfoldable pub refuses : Quantiles → List ℕ → ℕ → Bool
unfolding passes
refuses q room v = not (sized q.signed room) || (crossed q || passes q room v)

-- a count for each sample, at the place that it has
unfoldable pub tally : (ℕ → ℕ) → List ℕ → List ℕ → List ℕ
tally place [] b = b
tally place (x ∷ xs) b = tally place xs (bumped b (place x))

-- n counts, zeroed, then filled
unfoldable pub filled : (ℕ → ℕ) → ℕ → List ℕ → List ℕ
unfolding tally
filled place n xs = tally place xs (replicate n 0)

-- the buckets of samples
abbrev pub filled_buckets : Bool → List ℕ → List ℕ
filled_buckets s xs = filled (index_of s) (bucket_count s) xs

-- and the totals of their blocks
abbrev pub filled_totals : Bool → List ℕ → List ℕ
filled_totals s xs = filled (block_of s) (block_count s) xs

-- the one list or the other, by a test
abbrev pub pick_list : Bool → List ℕ → List ℕ → List ℕ
pick_list true a b = a
pick_list false a b = b

-- samples, and these buckets and totals with a value more
abbrev pub counted : Bool → List ℕ → List ℕ → List ℕ → ℕ → List ℕ
counted s samples b t v = samples ++ (bumped b (index_of s v) ++ bumped t (block_of s v))

-- the room with one sample more: exact up to 4,096; sample 4,097 zeroes, then fills the buckets and the totals; the samples are kept
unfoldable pub stored : Quantiles → List ℕ → ℕ → List ℕ
unfolding filled
stored q room v =
    pick_list (ltb q.count capacity) (set room q.count v)
    (pick_list (eqb q.count capacity) (counted q.signed (samples room) (filled_buckets q.signed (samples room)) (filled_totals q.signed (samples room)) v)
    (counted q.signed (samples room) (buckets q.signed room) (totals q.signed room) v))

-- the state with one sample more; the first is minimum and maximum
unfoldable pub grown : Quantiles → ℕ → Quantiles
grown q v =
    record {
      signed = q.signed;
      count = q.count + 1;
      min = pick (eqb q.count 0) v (pick (ltb (order q.signed v) (order q.signed q.min)) v q.min);
      max = pick (eqb q.count 0) v (pick (ltb (order q.signed q.max) (order q.signed v)) v q.max);
    }

-- the one outcome or the other, by a test
abbrev pub pick_outcome : Bool → Outcome → Outcome → Outcome
pick_outcome true a b = a
pick_outcome false a b = b

-- 5 is tested first; then a count of 2^64-1 answers false and changes nothing
unfoldable pub recorded : Quantiles → List ℕ → ℕ → Outcome
unfolding still taken refuses stored grown
recorded q room v =
    pick_outcome (refuses q room v) (still wrong_room q room)
    (pick_outcome (eqb q.count (2 ^ 64 - 1)) (still 0 q room) (taken (grown q v) (stored q room v)))
