-- What a percentile means, for a room grown from fresh by `record`s, over the plain list of samples. Assumes nothing.
use mathlib.Core.Path.{◌≡◌, refl, sym, ◌∙◌, ap, subst}
use mathlib.Core.Bool.{Bool, true, false}
use mathlib.Core.List.{List, [], ◌∷◌, ◌++◌, append_assoc, append-nil}
use Prim.Native.Nat.{ℕ, suc, ◌+◌, ◌-◌, ◌^◌, ◌≤◌, ◌<◌}
use native.Mathlib.Omega.{arith}
use lib.Dec.{eqb}
use lib.Ieee.{Float}
use lib.ListN.{length, get_or, take, length-append}
use Rattle.rank.specs.Rank.{rank_of, rank_below}
use Rattle.exact_rank.specs.Rank.{sorted, at_rank}
use Rattle.limits.specs.Refusals.{wrong_room}
use Rattle.quantile_room.specs.Room.{room_size}
use Rattle.buckets.specs.Signed.{order, index_of, value_of}
use Rattle.quantiles.specs.declared.Quantiles.{Quantiles}
use Rattle.quantiles.specs.Record.{Outcome, still, taken, grown, stored, refuses, pick_outcome, recorded}
use Rattle.histogram_ranks.specs.Ranks.{clamped}
use Rattle.percentiles.specs.Percentiles.{value_at, percentile}
use Rattle.histogram_ranks.proofs.Values.{shows_bucket}
use Rattle.percentiles.proofs.Values.{shows_sample, shows_histogram}
use Rattle.quantile_meaning.specs.Words.{Words}
use Rattle.quantile_meaning.specs.Grown.{fresh, record_all}
use Rattle.quantile_meaning.proofs.Meaning.{sample_of, bucket_of_sample}
use Rattle.quantile_meaning.proofs.Blocks.{held_bucket}
use Rattle.quantile_meaning.proofs.Growth.{around-none, Holds, step}

-- what one `record` leaves, read off its outcome
pub after-step : (vs : List ℕ) (q : Quantiles) (room : List ℕ) (v : ℕ) → length vs + 1 < 2 ^ 64 → Holds vs q room → Holds (vs ++ (v ∷ [])) (recorded q room v).state (recorded q room v).room
unfolding taken
after-step vs q room v l h = subst (λ (o : Outcome). Holds (vs ++ (v ∷ [])) o.state o.room) (step vs q room v l h).1 (step vs q room v l h).2

all_held : (ws vs : List ℕ) (q : Quantiles) (room : List ℕ) → length vs + length ws < 2 ^ 64 → Holds vs q room → Holds (vs ++ ws) (record_all q room ws).state (record_all q room ws).room
unfolding record_all
all_held [] vs q room l h = subst (λ (x : List ℕ). Holds x q room) (sym (append-nil vs)) h
all_held (w ∷ ws) vs q room l h =
    subst (λ (x : List ℕ). Holds x (record_all (recorded q room w).state (recorded q room w).room ws).state (record_all (recorded q room w).state (recorded q room w).room ws).room)
    (append_assoc vs (w ∷ []) ws)
    (all_held ws (vs ++ (w ∷ [])) (recorded q room w).state (recorded q room w).room (subst (λ (n : ℕ). n + length ws < 2 ^ 64) (sym (length-append vs (w ∷ []))) (longer (length vs) (length ws) l))
    (after-step vs q room w (shorter (length vs) (length ws) l) h))
  where
    longer : (a b : ℕ) → a + suc b < 2 ^ 64 → a + 1 + b < 2 ^ 64
    longer a b l = omega arith

    shorter : (a b : ℕ) → a + suc b < 2 ^ 64 → a + 1 < 2 ^ 64
    shorter a b l = omega arith

-- the kind stays
kind_kept : (q : Quantiles) (room : List ℕ) (v : ℕ) → (recorded q room v).state.signed ≡ q.signed
unfolding recorded still taken grown
kind_kept q room v = by (refuses q room v) (eqb q.count (2 ^ 64 - 1))
  where
    by : (r f : Bool) → (pick_outcome r (still wrong_room q room) (pick_outcome f (still 0 q room) (taken (grown q v) (stored q room v)))).state.signed ≡ q.signed
    by true f = refl
    by false true = refl
    by false false = refl

pub kind_of : (vs : List ℕ) (q : Quantiles) (room : List ℕ) → (record_all q room vs).state.signed ≡ q.signed
unfolding record_all
kind_of [] q room = refl
kind_of (v ∷ vs) q room = kind_of vs (recorded q room v).state (recorded q room v).room ∙ kind_kept q room v

-- no samples yet: whatever the room held before
pub fresh_holds : (s : Bool) (room : List ℕ) → length room ≡ room_size s → Holds [] (fresh s) room
fresh_holds s room h = record { sized = h; count = refl; around = around-none; exact = λ m. refl; counted = λ m. absurd (never m); totalled = λ m. absurd (never m) }
  where
    never : 4096 < 0 → ⊥
    never m = omega arith

-- a room grown from fresh holds the samples
pub from_fresh : (s : Bool) (room vs : List ℕ) → length room ≡ room_size s → length vs < 2 ^ 64 → Holds vs (record_all (fresh s) room vs).state (record_all (fresh s) room vs).room
from_fresh s room vs h l = all_held vs [] (fresh s) room (omega arith) (fresh_holds s room h)

-- exact mode: the sample of the percentile's rank in sorted order
pub exact_percentile : (vs : List ℕ) (q : Quantiles) (room : List ℕ) (p : Float) → Holds vs q room → length vs ≤ 4096
    → percentile q room p ≡ sample_of q.signed vs (rank_of p (length vs))
unfolding percentile at_rank
exact_percentile vs q room p h l =
    sym (shows_sample q room (rank_of p q.count) (subst (λ (n : ℕ). n ≤ 4096) (sym h.count) l))
    ∙ ap (λ (n : ℕ). get_or (sorted (order q.signed) (take n room)) (rank_of p n) 0) h.count
    ∙ ap (λ (x : List ℕ). get_or (sorted (order q.signed) x) (rank_of p (length vs)) 0) (h.exact l)

-- histogram, at a rank between the first and the last: the bucket value of that sample, clamped to minimum and maximum
pub histogram_percentile : (vs : List ℕ) (q : Quantiles) (room : List ℕ) (p : Float) → Holds vs q room → Words vs → 4096 < length vs
    → (rank_of p (length vs) ≡ 0 → ⊥) → (rank_of p (length vs) ≡ length vs - 1 → ⊥)
    → percentile q room p ≡ clamped q.signed (value_of q.signed (index_of q.signed (sample_of q.signed vs (rank_of p (length vs))))) q.min q.max
unfolding percentile
histogram_percentile vs q room p h w l n m =
    ap (λ (c : ℕ). value_at q room (rank_of p c)) h.count
    ∙ sym (shows_histogram q room (rank_of p (length vs)) (subst (λ (c : ℕ). 4096 < c) (sym h.count) l))
    ∙ sym (shows_bucket q room (rank_of p (length vs)) n (λ e. m (e ∙ ap (λ (c : ℕ). c - 1) h.count)))
    ∙ ap (λ (i : ℕ). clamped q.signed (value_of q.signed i) q.min q.max)
    (held_bucket vs q room (rank_of p (length vs)) h w l (rank_below p (length vs) (some (length vs) l)) ∙ bucket_of_sample q.signed vs (rank_of p (length vs)) w (rank_below p (length vs) (some (length vs) l)))
  where
    some : (n : ℕ) → 4096 < n → 0 < n
    some n l = omega arith
