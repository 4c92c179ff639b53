-- The theorem to read: a percentile of a histogram grown from fresh is within 1/128 of the sample that has the percentile's rank in
-- sorted order. Assumes nothing.
use mathlib.Core.Path.{◌≡◌, refl, sym, ◌∙◌, ap, subst}
use mathlib.Core.Bool.{Bool, true, false}
use mathlib.Core.List.{List, [], ◌∷◌, ◌++◌, append_assoc, append-nil}
use mathlib.Core.Logic.{◌⊎◌, inl, inr, ⊎_elim}
use Prim.Native.Nat.{ℕ, suc, ◌+◌, ◌-◌, ◌*◌, ◌^◌, ◌≤◌, ◌<◌}
use native.Mathlib.Omega.{arith}
use borrow.Author.Tests.{eqb-true, eqb-false}
use lib.Dec.{eqb}
use lib.Ieee.{Float}
use lib.ListN.{length, length-append}
use Rattle.rank.specs.Rank.{rank_of, rank_below}
use Rattle.exact_rank.specs.Counting.{KeyOfRank}
use Rattle.exact_rank.proofs.Sorting.{sorted-is_counted}
use Rattle.quantile_room.specs.Room.{room_size}
use Rattle.buckets.specs.Signed.{magnitude, order, gap, value_of}
use Rattle.quantiles.specs.declared.Quantiles.{Quantiles}
use Rattle.quantiles.specs.Record.{Outcome, taken, recorded}
use Rattle.histogram_ranks.specs.Ranks.{clamped, histogram_value}
use Rattle.percentiles.specs.Percentiles.{value_at, percentile}
use Rattle.histogram_ranks.proofs.Values.{shows_min, shows_max, shows_bucket}
use Rattle.percentiles.proofs.Values.{shows_histogram}
use Rattle.quantile_meaning.specs.Words.{Words}
use Rattle.quantile_meaning.specs.Grown.{fresh, record_all}
use Rattle.quantile_meaning.proofs.Meaning.{sample_of, within_one_part_in_128}
use Rattle.quantile_meaning.proofs.Blocks.{held_bucket}
use Rattle.quantile_meaning.proofs.Growth.{Holds, step}
use Rattle.quantile_meaning.proofs.Percentile.{after-step, fresh_holds, from_fresh, kind_of, exact_percentile}
use Rattle.quantile_meaning.proofs.Near.{Reached, grown_reached, least_first, greatest-last, rank-low, rank-high}

same_or_not : (a b : ℕ) → (a ≡ b) ⊎ (a ≡ b → ⊥)
same_or_not a b = by (eqb a b) refl
  where
    by : (t : Bool) → eqb a b ≡ t → (a ≡ b) ⊎ (a ≡ b → ⊥)
    by true e = inl (eqb-true a b e)
    by false e = inr (eqb-false a b e)

-- what is as far as nothing is near
no_gap : (a b m : ℕ) → a ≤ b → b ≤ a → 128 * ((a - b) + (b - a)) ≤ m
no_gap a b m l g = omega arith

-- the value of any rank
near-at : (vs : List ℕ) (q : Quantiles) (room : List ℕ) (r : ℕ) → Holds vs q room → Reached vs q → Words vs → 4096 < length vs → r < length vs
    → 128 * gap q.signed (sample_of q.signed vs r) (value_at q room r) ≤ magnitude q.signed (sample_of q.signed vs r)
near-at vs q room r h reached w l b =
    subst (λ (v : ℕ). 128 * gap q.signed (sample_of q.signed vs r) v ≤ magnitude q.signed (sample_of q.signed vs r)) (shows_histogram q room r late)
    (⊎_elim first (λ n. ⊎_elim (last n) (inner n) (same_or_not r (q.count - 1))) (same_or_not r 0))
  where
    late : 4096 < q.count
    late = subst (λ (c : ℕ). 4096 < c) (sym h.count) l

    key : KeyOfRank (order q.signed) vs r (order q.signed (sample_of q.signed vs r))
    key = sorted-is_counted (order q.signed) vs r b

    above : order q.signed q.min ≤ order q.signed (sample_of q.signed vs r)
    above = rank-low q.signed q.min q.max r (sample_of q.signed vs r) vs h.around key

    under : order q.signed (sample_of q.signed vs r) ≤ order q.signed q.max
    under = rank-high q.signed q.min q.max r (sample_of q.signed vs r) vs h.around b key

    first : r ≡ 0 → 128 * gap q.signed (sample_of q.signed vs r) (histogram_value q room r) ≤ magnitude q.signed (sample_of q.signed vs r)
    first e =
        subst (λ (v : ℕ). 128 * gap q.signed (sample_of q.signed vs r) v ≤ magnitude q.signed (sample_of q.signed vs r)) (shows_min q room r e)
        (no_gap (order q.signed (sample_of q.signed vs r)) (order q.signed q.min) (magnitude q.signed (sample_of q.signed vs r))
        (least_first (order q.signed) vs (sample_of q.signed vs r) q.min reached.low (subst (λ (n : ℕ). KeyOfRank (order q.signed) vs n (order q.signed (sample_of q.signed vs r))) e key)) above)

    last : (r ≡ 0 → ⊥) → r ≡ q.count - 1 → 128 * gap q.signed (sample_of q.signed vs r) (histogram_value q room r) ≤ magnitude q.signed (sample_of q.signed vs r)
    last n e =
        subst (λ (v : ℕ). 128 * gap q.signed (sample_of q.signed vs r) v ≤ magnitude q.signed (sample_of q.signed vs r)) (shows_max q room r n e)
        (no_gap (order q.signed (sample_of q.signed vs r)) (order q.signed q.max) (magnitude q.signed (sample_of q.signed vs r)) under
        (greatest-last (order q.signed) vs (sample_of q.signed vs r) q.max reached.high
        (subst (λ (n : ℕ). KeyOfRank (order q.signed) vs n (order q.signed (sample_of q.signed vs r))) (e ∙ ap (λ (c : ℕ). c - 1) h.count) key)))

    inner : (r ≡ 0 → ⊥) → (r ≡ q.count - 1 → ⊥) → 128 * gap q.signed (sample_of q.signed vs r) (histogram_value q room r) ≤ magnitude q.signed (sample_of q.signed vs r)
    inner n m =
        subst (λ (v : ℕ). 128 * gap q.signed (sample_of q.signed vs r) v ≤ magnitude q.signed (sample_of q.signed vs r)) (shows_bucket q room r n m)
        (subst (λ (i : ℕ). 128 * gap q.signed (sample_of q.signed vs r) (clamped q.signed (value_of q.signed i) q.min q.max) ≤ magnitude q.signed (sample_of q.signed vs r)) (sym (held_bucket vs q room r h w l b))
        (within_one_part_in_128 q.signed vs r q.min q.max w b above under))

pub histogram_near : (vs : List ℕ) (q : Quantiles) (room : List ℕ) (p : Float) → Holds vs q room → Reached vs q → Words vs → 4096 < length vs
    → 128 * gap q.signed (sample_of q.signed vs (rank_of p (length vs))) (percentile q room p) ≤ magnitude q.signed (sample_of q.signed vs (rank_of p (length vs)))
unfolding percentile
histogram_near vs q room p h reached w l =
    subst (λ (c : ℕ). 128 * gap q.signed (sample_of q.signed vs (rank_of p (length vs))) (value_at q room (rank_of p c)) ≤ magnitude q.signed (sample_of q.signed vs (rank_of p (length vs)))) (sym h.count)
    (near-at vs q room (rank_of p (length vs)) h reached w l (rank_below p (length vs) (some (length vs) l)))
  where
    some : (n : ℕ) → 4096 < n → 0 < n
    some n l = omega arith

-- minimum and maximum are samples in every room grown from fresh
reached_step : (vs : List ℕ) (q : Quantiles) (room : List ℕ) (v : ℕ) → length vs + 1 < 2 ^ 64 → Holds vs q room → (0 < length vs → Reached vs q) → Reached (vs ++ (v ∷ [])) (recorded q room v).state
unfolding taken
reached_step vs q room v l h r = subst (λ (o : Outcome). Reached (vs ++ (v ∷ [])) o.state) (step vs q room v l h).1 (grown_reached q v vs h.count r)

all_reached : (ws vs : List ℕ) (q : Quantiles) (room : List ℕ) → length vs + length ws < 2 ^ 64 → Holds vs q room → (0 < length vs → Reached vs q) → 0 < length (vs ++ ws) → Reached (vs ++ ws) (record_all q room ws).state
unfolding record_all
all_reached [] vs q room l h r m = subst (λ (x : List ℕ). Reached x q) (sym (append-nil vs)) (r (subst (λ (x : List ℕ). 0 < length x) (append-nil vs) m))
all_reached (w ∷ ws) vs q room l h r m =
    subst (λ (x : List ℕ). Reached x (record_all (recorded q room w).state (recorded q room w).room ws).state) (append_assoc vs (w ∷ []) ws)
    (all_reached ws (vs ++ (w ∷ [])) (recorded q room w).state (recorded q room w).room (subst (λ (n : ℕ). n + length ws < 2 ^ 64) (sym (length-append vs (w ∷ []))) (longer (length vs) (length ws) l))
    (after-step vs q room w (shorter (length vs) (length ws) l) h) (λ g. reached_step vs q room w (shorter (length vs) (length ws) l) h r)
    (subst (λ (x : List ℕ). 0 < length x) (sym (append_assoc vs (w ∷ []) ws)) m))
  where
    longer : (a b : ℕ) → a + suc b < 2 ^ 64 → a + 1 + b < 2 ^ 64
    longer a b l = omega arith

    shorter : (a b : ℕ) → a + suc b < 2 ^ 64 → a + 1 < 2 ^ 64
    shorter a b l = omega arith

-- THE THEOREM. Record the values vs, in order, from fresh, in any room of the right size. Up to 4,096 of them, the percentile p is
-- the value that has the rank of p in sorted order. Beyond, it is within 1/128 of that value.
pub what_a_percentile_means : (s : Bool) (room vs : List ℕ) (p : Float) → length room ≡ room_size s → Words vs → length vs < 2 ^ 64
    → (length vs ≤ 4096 → percentile (record_all (fresh s) room vs).state (record_all (fresh s) room vs).room p ≡ sample_of s vs (rank_of p (length vs)))
    × (4096 < length vs → 128 * gap s (sample_of s vs (rank_of p (length vs))) (percentile (record_all (fresh s) room vs).state (record_all (fresh s) room vs).room p) ≤ magnitude s (sample_of s vs (rank_of p (length vs))))
what_a_percentile_means s room vs p h w l = (
  (λ m. exact_percentile vs (record_all (fresh s) room vs).state (record_all (fresh s) room vs).room p (from_fresh s room vs h l) m ∙ ap (λ (k : Bool). sample_of k vs (rank_of p (length vs))) (kind_of vs (fresh s) room)),
  (λ m. subst (λ (k : Bool). 128 * gap k (sample_of k vs (rank_of p (length vs))) (percentile (record_all (fresh s) room vs).state (record_all (fresh s) room vs).room p) ≤ magnitude k (sample_of k vs (rank_of p (length vs)))) (kind_of vs (fresh s) room) (histogram_near vs (record_all (fresh s) room vs).state (record_all (fresh s) room vs).room p (from_fresh s room vs h l) (all_reached vs [] (fresh s) room (omega arith) (fresh_holds s room h) (λ z. absurd (never z)) (some (length vs) m)) w m)),
)
  where
    some : (n : ℕ) → 4096 < n → 0 < n
    some n l = omega arith

    never : 0 < 0 → ⊥
    never z = omega arith
