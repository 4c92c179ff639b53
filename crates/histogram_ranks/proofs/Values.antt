-- What is shown for a rank, by its tests. Assumes nothing.
use mathlib.Core.Path.{◌≡◌, refl, sym, ◌∙◌, ap}
use mathlib.Core.Bool.{Bool, true, false}
use mathlib.Core.List.{List}
use Prim.Native.Nat.{ℕ, ◌-◌, ◌≤◌, ◌<◌}
use borrow.Author.Tests.{eq-eqb, ne_eqb}
use lib.Dec.{ltb, eqb}
use Rattle.buckets.specs.Buckets.{pick}
use Rattle.buckets.specs.Signed.{order, value_of}
use Rattle.buckets.proofs.SignedFacts.{pick-below, pick-above}
use Rattle.quantiles.specs.declared.Quantiles.{Quantiles}
use Rattle.histogram_ranks.specs.Ranks.{bucket_of, clamped, histogram_value}

module _ (s : Bool) (x low high : ℕ) where
  pub clamp-low : order s x < order s low → low ≡ clamped s x low high
  unfolding clamped
  clamp-low h = sym (pick-below (order s x) (order s low) low (pick (ltb (order s high) (order s x)) high x) h)

  pub clamp-high : order s low ≤ order s x → order s high < order s x → high ≡ clamped s x low high
  unfolding clamped
  clamp-high g h =
      sym (pick-above (order s x) (order s low) low (pick (ltb (order s high) (order s x)) high x) g ∙ pick-below (order s high) (order s x) high x h)

  pub clamp-between : order s low ≤ order s x → order s x ≤ order s high → x ≡ clamped s x low high
  unfolding clamped
  clamp-between g h =
      sym (pick-above (order s x) (order s low) low (pick (ltb (order s high) (order s x)) high x) g ∙ pick-above (order s high) (order s x) high x h)

-- a histogram's value by whether the rank is the first, or the last
by_rank : Quantiles → List ℕ → ℕ → Bool → Bool → ℕ
by_rank q room r first last = pick first q.min (pick last q.max (clamped q.signed (value_of q.signed (bucket_of q room r)) q.min q.max))

by-rank_is : (q : Quantiles) (room : List ℕ) (r : ℕ) (first last : Bool) → eqb r 0 ≡ first → eqb r (q.count - 1) ≡ last → by_rank q room r first last ≡ histogram_value q room r
unfolding histogram_value by_rank
by-rank_is q room r first last e f = sym (ap (λ (t : Bool). by_rank q room r t (eqb r (q.count - 1))) e ∙ ap (by_rank q room r first) f)

module _ (q : Quantiles) (room : List ℕ) (r : ℕ) where
  pub shows_min : r ≡ 0 → q.min ≡ histogram_value q room r
  unfolding by_rank
  shows_min e = by-rank_is q room r true (eqb r (q.count - 1)) (eq-eqb r 0 e) refl

  pub shows_max : (r ≡ 0 → ⊥) → r ≡ q.count - 1 → q.max ≡ histogram_value q room r
  unfolding by_rank
  shows_max n e = by-rank_is q room r false true (ne_eqb r 0 n) (eq-eqb r (q.count - 1) e)

  pub shows_bucket : (r ≡ 0 → ⊥) → (r ≡ q.count - 1 → ⊥) → clamped q.signed (value_of q.signed (bucket_of q room r)) q.min q.max ≡ histogram_value q room r
  unfolding by_rank
  shows_bucket n m = by-rank_is q room r false false (ne_eqb r 0 n) (ne_eqb r (q.count - 1) m)
