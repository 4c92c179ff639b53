-- What is shown for a rank, by its tests. Assumes nothing.
use mathlib.Core.Path.{◌≡◌, refl, sym, ◌∙◌, ap, subst}
use mathlib.Core.Bool.{Bool}
use mathlib.Core.List.{List, [], ◌∷◌, ◌++◌, map, append_assoc, append-nil}
use Prim.Native.Nat.{ℕ, suc, ◌+◌, ◌≤◌, ◌<◌}
use native.Mathlib.Omega.{arith}
use native.Mathlib.Numerals.{add-one}
use borrow.Author.Tests.{le-leb, lt-leb}
use lib.Ieee.{Float}
use lib.ListN.{length, get_or, set, take, drop, length-map, drop_of_length-le}
use lib.Seq.{drop-cons, take-suc, take_all, set_at, length-take-le}
use Rattle.rank.specs.Rank.{rank_of}
use Rattle.exact_rank.specs.Rank.{at_rank}
use Rattle.buckets.specs.Buckets.{pick}
use Rattle.buckets.specs.Signed.{order}
use Rattle.quantiles.specs.declared.Quantiles.{Quantiles}
use Rattle.histogram_ranks.specs.Ranks.{histogram_value}
use Rattle.percentiles.specs.Percentiles.{value_at, percentile}

module _ (q : Quantiles) (room : List ℕ) (r : ℕ) where
  pub shows_sample : q.count ≤ 4096 → at_rank (order q.signed) room q.count r ≡ value_at q room r
  unfolding value_at
  shows_sample h = sym (ap (λ (t : Bool). pick t (at_rank (order q.signed) room q.count r) (histogram_value q room r)) (le-leb q.count 4096 h))

  pub shows_histogram : 4096 < q.count → histogram_value q room r ≡ value_at q room r
  unfolding value_at
  shows_histogram h = sym (ap (λ (t : Bool). pick t (at_rank (order q.signed) room q.count r) (histogram_value q room r)) (lt-leb q.count 4096 h))

pub percentile_is : (q : Quantiles) (room : List ℕ) (p : Float) (r v : ℕ) → r ≡ rank_of p q.count → v ≡ value_at q room r → v ≡ percentile q room p
unfolding percentile
percentile_is q room p r v e f = f ∙ ap (value_at q room) e

-- one percentile more in the lent answer
map_append' : (f : Float → ℕ) (a b : List Float) → map f (a ++ b) ≡ map f a ++ map f b
map_append' f [] b = refl
map_append' f (x ∷ xs) b = ap (λ (l : List ℕ). f x ∷ l) (map_append' f xs b)

pub shown-next : (f : Float → ℕ) (ps : List Float) (d : Float) (shown₀ : List ℕ) (i v : ℕ) → i < length ps → length shown₀ ≡ length ps → v ≡ f (get_or ps i d)
    → set (map f (take i ps) ++ drop i shown₀) i v ≡ map f (take (i + 1) ps) ++ drop (i + 1) shown₀
shown-next f ps d shown₀ i v h l e =
    ap (λ (s : List ℕ). set (map f (take i ps) ++ s) i v) (drop-cons shown₀ i 0 (subst (λ (n : ℕ). i < n) (sym l) h))
    ∙ set_at (map f (take i ps)) (get_or shown₀ i 0) (drop (suc i) shown₀) v i (length-map (take i ps) f ∙ length-take-le i ps (omega arith))
    ∙ ap (λ (x : ℕ). map f (take i ps) ++ (x ∷ drop (suc i) shown₀)) e
    ∙ sym (append_assoc (map f (take i ps)) (f (get_or ps i d) ∷ []) (drop (suc i) shown₀))
    ∙ ap (λ (m : List ℕ). m ++ drop (suc i) shown₀) (sym (map_append' f (take i ps) (get_or ps i d ∷ [])) ∙ ap (map f) (sym (take-suc ps i d h)))
    ∙ ap (λ (n : ℕ). map f (take n ps) ++ drop n shown₀) (sym (add-one i))

pub shown_all : (f : Float → ℕ) (ps : List Float) (shown₀ : List ℕ) (i : ℕ) → length ps ≤ i → length shown₀ ≡ length ps → map f (take i ps) ++ drop i shown₀ ≡ map f ps
shown_all f ps shown₀ i h l =
    ap (λ (s : List ℕ). map f (take i ps) ++ s) (drop_of_length-le shown₀ (subst (λ (n : ℕ). n ≤ i) (sym l) h)) ∙ append-nil (map f (take i ps))
    ∙ ap (map f) (take_all i ps h)
