-- Whether a block that is read lies, one percentile after the other, and what is spoilt by it. Assumes nothing.
use mathlib.Core.Path.{◌≡◌, refl, sym, ◌∙◌, ap}
use mathlib.Core.Bool.{Bool, true, false, not, ◌||◌}
use mathlib.Core.List.{List, [], ◌∷◌}
use Prim.Native.Nat.{ℕ, zero, suc, ◌+◌, ◌≤◌, ◌<◌}
use native.Mathlib.Numerals.{add-one}
use native.Mathlib.Omega.{arith}
use borrow.Author.Tests.{eqb-true}
use lib.Dec.{eqb}
use lib.Ieee.{Float}
use lib.ListN.{length, get_or, drop, drop_of_length-le}
use lib.Seq.{drop-cons}
use Rattle.rank.specs.Rank.{rank_of}
use Rattle.histogram.specs.Histogram.{total}
use Rattle.quantiles.specs.declared.Quantiles.{Quantiles}
use Rattle.quantile_room.specs.Room.{totals}
use Rattle.histogram_ranks.specs.Ranks.{block_at, lies}
use Rattle.percentiles.specs.Percentiles.{any_lies, spoilt}

-- the percentiles from one on: the next one lies, or the rest decides
pub next-lies : (q : Quantiles) (room : List ℕ) (ps : List Float) (d : Float) (i : ℕ) → i < length ps → lies q.signed room (block_at q room (rank_of (get_or ps i d) q.count)) ≡ true → any_lies q room (drop i ps) ≡ true
unfolding any_lies
next-lies q room ps d i h e = ap (any_lies q room) (drop-cons ps i d h) ∙ ap (λ (t : Bool). t || any_lies q room (drop (suc i) ps)) e

pub next_true : (q : Quantiles) (room : List ℕ) (ps : List Float) (d : Float) (i : ℕ) → i < length ps → lies q.signed room (block_at q room (rank_of (get_or ps i d) q.count)) ≡ false → any_lies q room (drop (i + 1) ps) ≡ any_lies q room (drop i ps)
unfolding any_lies
next_true q room ps d i h e =
    ap (λ (n : ℕ). any_lies q room (drop n ps)) (add-one i) ∙ sym (ap (any_lies q room) (drop-cons ps i d h) ∙ ap (λ (t : Bool). t || any_lies q room (drop (suc i) ps)) e)

pub none_left : (q : Quantiles) (room : List ℕ) (ps : List Float) (i : ℕ) → length ps ≤ i → any_lies q room (drop i ps) ≡ false
unfolding any_lies
none_left q room ps i h = ap (any_lies q room) (drop_of_length-le ps h)

-- where none lies, each does not
pub none-lies : (q : Quantiles) (room : List ℕ) (ps : List Float) (d : Float) (i : ℕ) → any_lies q room ps ≡ false → i < length ps → lies q.signed room (block_at q room (rank_of (get_or ps i d) q.count)) ≡ false
unfolding any_lies
none-lies q room [] d i e h = absurd (none i h)
  where
    none : (i : ℕ) → i < 0 → ⊥
    none i h = omega arith
none-lies q room (p ∷ ps) d zero e h = first (lies q.signed room (block_at q room (rank_of p q.count))) (any_lies q room ps) e
  where
    first : (a b : Bool) → a || b ≡ false → a ≡ false
    first true b e = e
    first false b e = refl
none-lies q room (p ∷ ps) d (suc i) e h = none-lies q room ps d i (second (lies q.signed room (block_at q room (rank_of p q.count))) (any_lies q room ps) e) (omega (arith, h))
  where
    second : (a b : Bool) → a || b ≡ false → b ≡ false
    second true b e = absurd (no e)
      where
        no : ◌≡◌ {A = Bool} true false → ⊥
        no e = let z : ◌≡◌ {A = ℕ} 0 1 = cc in omega arith
    second false b e = e

-- what is spoilt, by its tests
module _ (q : Quantiles) (room : List ℕ) (ps : List Float) where
  pub spoilt_sum : eqb (total (totals q.signed room)) q.count ≡ false → spoilt q room ps ≡ true
  unfolding spoilt
  spoilt_sum e = ap (λ (t : Bool). not t || any_lies q room ps) e

  pub spoilt-block : eqb (total (totals q.signed room)) q.count ≡ true → spoilt q room ps ≡ any_lies q room ps
  unfolding spoilt
  spoilt-block e = ap (λ (t : Bool). not t || any_lies q room ps) e

  sum_sound : (a b : Bool) → not a || b ≡ false → a ≡ true
  sum_sound true b e = refl
  sum_sound false b e = sym e

  pub unspoilt_sum : spoilt q room ps ≡ false → total (totals q.signed room) ≡ q.count
  unfolding spoilt
  unspoilt_sum e = eqb-true (total (totals q.signed room)) q.count (sum_sound (eqb (total (totals q.signed room)) q.count) (any_lies q room ps) e)

  pub unspoilt_blocks : spoilt q room ps ≡ false → any_lies q room ps ≡ false
  unfolding spoilt
  unspoilt_blocks e = second (eqb (total (totals q.signed room)) q.count) (any_lies q room ps) e
    where
      second : (a b : Bool) → not a || b ≡ false → b ≡ false
      second true b e = e
      second false b e = absurd (no e)
        where
          no : ◌≡◌ {A = Bool} true false → ⊥
          no e = let z : ◌≡◌ {A = ℕ} 0 1 = cc in omega arith
