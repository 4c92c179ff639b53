-- THE THEOREM over the call: in any room grown from fresh `percentiles` is not refused, and shows what the full walk shows, for every rank.
-- Assumes nothing.
use mathlib.Core.Path.{◌≡◌, refl, sym, ◌∙◌, ap, ap₂, subst}
use mathlib.Core.Bool.{Bool, true, false, not, ◌&&◌, ◌||◌}
use mathlib.Core.List.{List, [], ◌∷◌, map}
use mathlib.Core.Logic.{⊎_elim}
use Prim.Native.Nat.{ℕ, ◌-◌, ◌*◌, ◌^◌, ◌≤◌, ◌<◌}
use native.Mathlib.Omega.{arith}
use borrow.Author.Tests.{eq-eqb, ne_eqb, le-leb}
use lib.Dec.{leb, eqb}
use lib.Ieee.{Float}
use lib.ListN.{length, get_or, take, drop}
use Rattle.rank.specs.Rank.{rank_of, rank_below}
use Rattle.exact_rank.specs.Rank.{at_rank}
use Rattle.buckets.specs.Buckets.{pick}
use Rattle.buckets.specs.Signed.{order, value_of}
use Rattle.buckets.proofs.Facts.{lt_or_ge}
use Rattle.histogram.specs.Histogram.{total, bucket_at}
use Rattle.quantiles.specs.declared.Quantiles.{Quantiles}
use Rattle.quantile_room.specs.Room.{room_size, totals}
use Rattle.quantiles.specs.State.{crossed}
use Rattle.quantiles.specs.Record.{filled_buckets, filled_totals}
use Rattle.std.specs.Prelude.{Ok}
use Rattle.histogram_ranks.specs.Ranks.{block_at, lies, clamped, histogram_value}
use Rattle.percentiles.specs.Percentiles.{outcome, any_lies, spoilt, value_at, percentile, percentiles_of}
use Rattle.percentiles.proofs.Ways.{way_exact, way_histogram}
use Rattle.percentiles.proofs.Lies.{spoilt-block}
use Rattle.quantile_meaning.specs.Words.{Words}
use Rattle.quantile_meaning.specs.Grown.{fresh, record_all}
use Rattle.quantile_meaning.specs.Walk.{walked_value, walked}
use Rattle.quantile_meaning.proofs.Growth.{Holds, not_crossed}
use Rattle.quantile_meaning.proofs.Blocks.{all_counted, rank-block, block_adds_up, before_the_last, held_bucket}
use Rattle.quantile_meaning.proofs.Percentile.{from_fresh}

same_map : (f g : Float → ℕ) → ((p : Float) → f p ≡ g p) → (ps : List Float) → map f ps ≡ map g ps
same_map f g e [] = refl
same_map f g e (p ∷ ps) = ap₂ (λ (x : ℕ) (l : List ℕ). x ∷ l) (e p) (same_map f g e ps)

module _ (vs : List ℕ) (q : Quantiles) (room : List ℕ) (h : Holds vs q room) (w : Words vs) where
  ranked : (p : Float) → 0 < length vs → rank_of p q.count < length vs
  ranked p l = subst (λ (n : ℕ). rank_of p q.count < n) h.count (rank_below p q.count (subst (λ (n : ℕ). 0 < n) (sym h.count) l))

  -- a histogram: the same value for every rank
  same-value : 4096 < length vs → (r : ℕ) → r < length vs → histogram_value q room r ≡ walked_value q room r
  unfolding histogram_value walked_value
  same-value l r b =
      ap (λ (i : ℕ). pick (eqb r 0) q.min (pick (eqb r (q.count - 1)) q.max (clamped q.signed (value_of q.signed i) q.min q.max)))
      (held_bucket vs q room r h w l b ∙ ap (λ (x : List ℕ). bucket_at x r) (sym (h.counted l)))

  some : (n m : ℕ) → n < m → 0 < m
  some n m l = omega arith

  pub same-percentile : 0 < length vs → (p : Float) → percentile q room p ≡ walked q room p
  unfolding percentile walked value_at
  same-percentile l p = ⊎_elim few many (lt_or_ge 4096 (length vs))
    where
      few : 4096 < length vs → pick (leb q.count 4096) (at_rank (order q.signed) room q.count (rank_of p q.count)) (histogram_value q room (rank_of p q.count)) ≡ pick (leb q.count 4096) (at_rank (order q.signed) room q.count (rank_of p q.count)) (walked_value q room (rank_of p q.count))
      few m = ap (pick (leb q.count 4096) (at_rank (order q.signed) room q.count (rank_of p q.count))) (same-value m (rank_of p q.count) (ranked p l))

      many : length vs ≤ 4096 → pick (leb q.count 4096) (at_rank (order q.signed) room q.count (rank_of p q.count)) (histogram_value q room (rank_of p q.count)) ≡ pick (leb q.count 4096) (at_rank (order q.signed) room q.count (rank_of p q.count)) (walked_value q room (rank_of p q.count))
      many m =
          ap (λ (t : Bool). pick t (at_rank (order q.signed) room q.count (rank_of p q.count)) (histogram_value q room (rank_of p q.count))) early
          ∙ sym (ap (λ (t : Bool). pick t (at_rank (order q.signed) room q.count (rank_of p q.count)) (walked_value q room (rank_of p q.count))) early)
        where
          early : leb q.count 4096 ≡ true
          early = le-leb q.count 4096 (subst (λ (n : ℕ). n ≤ 4096) (sym h.count) m)

  -- the block of bucket 14,592 is not read
  not_last : (s : Bool) → (r : ℕ) → r < length vs → s && eqb (bucket_at (filled_totals s vs) r) 114 ≡ false
  not_last true r b = ne_eqb (bucket_at (filled_totals true vs) r) 114 (λ e. below (bucket_at (filled_totals true vs) r) (before_the_last vs w r b) e)
    where
      below : (k : ℕ) → k < 114 → k ≡ 114 → ⊥
      below k l e = omega arith
  not_last false r b = refl

  -- no block that is read lies
  true_at : 4096 < length vs → (r : ℕ) → r < length vs → lies q.signed room (block_at q room r) ≡ false
  unfolding lies
  true_at l r b =
      ap₂ (λ (x t : List ℕ). not (eqb (total (take 128 (drop (128 * bucket_at t r) x))) (get_or t (bucket_at t r) 0)) || ((q.signed && eqb (bucket_at t r) 114) && not (eqb (get_or x 14592 0) 0))) (h.counted l) (h.totalled l)
      ∙ ap₂ (λ (a c : Bool). not a || (c && not (eqb (get_or (filled_buckets q.signed vs) 14592 0) 0)))
      (eq-eqb (total (take 128 (drop (128 * bucket_at (filled_totals q.signed vs) r) (filled_buckets q.signed vs)))) (get_or (filled_totals q.signed vs) (bucket_at (filled_totals q.signed vs) r) 0) (block_adds_up q.signed vs w (bucket_at (filled_totals q.signed vs) r) (rank-block q.signed vs w r b)))
      (not_last q.signed r b)

  none-at : 4096 < length vs → (ps : List Float) → any_lies q room ps ≡ false
  unfolding any_lies
  none-at l [] = refl
  none-at l (p ∷ ps) =
      ap (λ (t : Bool). t || any_lies q room ps) (true_at l (rank_of p q.count) (ranked p (some 4096 (length vs) l))) ∙ none-at l ps

  -- so nothing is spoilt
  pub not_spoilt : 4096 < length vs → (ps : List Float) → spoilt q room ps ≡ false
  not_spoilt l ps =
      spoilt-block q room ps (eq-eqb (total (totals q.signed room)) q.count (ap total (h.totalled l) ∙ all_counted q.signed vs w ∙ sym h.count)) ∙ none-at l ps

  pub held-served : 0 < length vs → (ps : List Float) (shown : List ℕ) → length shown ≡ length ps → percentiles_of q room ps shown ≡ outcome (Ok true) (map (walked q room) ps)
  held-served l ps shown same =
      ⊎_elim late early (lt_or_ge 4096 (length vs)) ∙ ap (outcome (Ok true)) (same_map (percentile q room) (walked q room) (same-percentile l) ps)
    where
      fine : crossed q ≡ false
      fine = not_crossed vs q h.count h.around

      late : 4096 < length vs → percentiles_of q room ps shown ≡ outcome (Ok true) (map (percentile q room) ps)
      late m = sym (way_histogram q room ps shown h.sized same fine (subst (λ (n : ℕ). 4096 < n) (sym h.count) m) (not_spoilt m ps))

      early : length vs ≤ 4096 → percentiles_of q room ps shown ≡ outcome (Ok true) (map (percentile q room) ps)
      early m =
          sym (way_exact q room ps shown h.sized same fine (subst (λ (n : ℕ). n ≤ 4096) (sym h.count) m) (λ z. nothing (length vs) l (sym h.count ∙ z)))
        where
          nothing : (n : ℕ) → 0 < n → n ≡ 0 → ⊥
          nothing n l e = omega arith

-- THE THEOREM. Record the values vs, in order, from fresh, in any room of the right size. Then percentiles are served, and each is the
-- full walk's.
pub a_grown_room_shows_the_walk : (s : Bool) (room vs : List ℕ) (ps : List Float) (shown : List ℕ) → length room ≡ room_size s → Words vs → 0 < length vs → length vs < 2 ^ 64 → length shown ≡ length ps
    → percentiles_of (record_all (fresh s) room vs).state (record_all (fresh s) room vs).room ps shown
    ≡ outcome (Ok true) (map (walked (record_all (fresh s) room vs).state (record_all (fresh s) room vs).room) ps)
a_grown_room_shows_the_walk s room vs ps shown h w l m same =
    held-served vs (record_all (fresh s) room vs).state (record_all (fresh s) room vs).room (from_fresh s room vs h m) w l ps shown same
