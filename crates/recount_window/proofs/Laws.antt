-- An answer about a run of counters, after one record more. Assumes nothing.
use Rattle.std.specs.Prelude.{Option, None, Some}
use Rattle.call_types.specs.declared.ReplyObservation.{ReplyObservation}
use mathlib.Core.Path.{◌≡◌, refl, sym, ap, subst, ◌∙◌}
use mathlib.Core.Bool.{Bool, true, false, not, ◌||◌}
use mathlib.Core.List.{List, [], ◌∷◌}
use Prim.Native.Nat.{ℕ, zero, suc, ◌+◌, ◌-◌, ◌≤◌}
use native.Mathlib.Omega.{arith}
use lib.Dec.{eqb}
use borrow.Author.Tests.{ne_eqb}
use lib.ListN.{length}
use Rattle.call_types.specs.declared.CounterPoint.{CounterPoint}
use Rattle.history.specs.Counting.{tally, has}
use Rattle.history.specs.DirectLoss.{transmit_offset, seen, highest, received_maximum, above0, anchor_of, anchor}
use Rattle.recount_window.specs.declared.Reach.{Reach}
use Rattle.recount_window.specs.Window.{point_of, join, points_from}
use Rattle.recount_window.specs.Reach.{first_of, is_seen, reach_of, reach_with, reach_next}

-- ---- a loop's turn over a run

module _ {A : Type 0} (f : List CounterPoint → A) (next : Option CounterPoint → A → A) (law : (p : Option CounterPoint) (w : List CounterPoint) → f (join p w) ≡ next p (f w)) where
  turn : (at : ℕ → Option ReplyObservation) (start j : ℕ) → start ≤ j → (p : Option CounterPoint) (a a' : A) → p ≡ point_of (at j) → a' ≡ next p a
      → a ≡ f (points_from at start (j - start)) → a' ≡ f (points_from at start (j + 1 - start))
  unfolding points_from
  turn at start j l p a a' e step inv =
      let more : suc (j - start) ≡ j + 1 - start = omega arith in
      let here : start + (j - start) ≡ j = omega arith in
      subst (λ (m : ℕ). a' ≡ f (points_from at start m)) more
      (step
      ∙ ap (next p) inv
      ∙ ap (λ (q : Option CounterPoint). next q (f (points_from at start (j - start)))) (e ∙ ap (λ (i : ℕ). point_of (at i)) (sym here))
      ∙ sym (law (point_of (at (start + (j - start)))) (points_from at start (j - start))))

module _ {A : Type 0} (f : List CounterPoint → A) where
  start_none : (at : ℕ → Option ReplyObservation) (start : ℕ) (a : A) → a ≡ f [] → a ≡ f (points_from at start (start - start))
  unfolding points_from
  start_none at start a e = let none_left : 0 ≡ start - start = omega arith in subst (λ (m : ℕ). a ≡ f (points_from at start m)) none_left e

-- ---- the anchor

anchor-first : (p : Option CounterPoint) (w : List CounterPoint) → anchor (join p w) ≡ first_of (anchor w) p
unfolding anchor anchor_of
anchor-first None [] = refl
anchor-first None (d ∷ w) = refl
anchor-first (Some c) [] = refl
anchor-first (Some c) (d ∷ w) = refl

module _ (at : ℕ → Option ReplyObservation) (start : ℕ) where
  pub anchor-start : None ≡ anchor (points_from at start (start - start))
  unfolding anchor
  anchor-start = start_none anchor at start None refl

  pub anchor-turn : (j : ℕ) → start ≤ j → (p a a' : Option CounterPoint) → p ≡ point_of (at j) → a' ≡ first_of a p → a ≡ anchor (points_from at start (j - start))
      → a' ≡ anchor (points_from at start (j + 1 - start))
  anchor-turn j l p a a' = turn anchor (λ q b. first_of b q) anchor-first at start j l p a a'

-- ---- seen offsets

seen_first : (a : CounterPoint) (wanted : ℕ) (p : Option CounterPoint) (w : List CounterPoint) → has (seen a (join p w)) wanted ≡ (is_seen a p wanted || has (seen a w) wanted)
unfolding has
seen_first a wanted None w = refl
seen_first a wanted (Some c) w = refl

module _ (at : ℕ → Option ReplyObservation) (start : ℕ) (a : CounterPoint) (wanted : ℕ) where
  pub seen_start : false ≡ has (seen a (points_from at start (start - start))) wanted
  unfolding has
  seen_start = start_none (λ w. has (seen a w) wanted) at start false refl

  pub seen-turn : (j : ℕ) → start ≤ j → (p : Option CounterPoint) (b b' : Bool) → p ≡ point_of (at j) → b' ≡ (is_seen a p wanted || b)
      → b ≡ has (seen a (points_from at start (j - start))) wanted → b' ≡ has (seen a (points_from at start (j + 1 - start))) wanted
  seen-turn j l p b b' = turn (λ w. has (seen a w) wanted) (λ q d. is_seen a q wanted || d) (seen_first a wanted) at start j l p b b'

-- ---- the reach

above-first : (t : ℕ) (ts : List ℕ) → above0 (t ∷ ts) ≡ tally (not (eqb t 0)) (above0 ts)
unfolding above0
above-first zero ts = refl
above-first (suc t) ts = rw (ne_eqb (suc t) 0 (λ e. omega arith))

reach-first : (a : CounterPoint) (p : Option CounterPoint) (w : List CounterPoint) → reach_of a (join p w) ≡ reach_next a p (reach_of a w)
unfolding received_maximum
reach-first a None w = refl
reach-first a (Some c) w =
    let one : suc (length w) ≡ length w + 1 = omega arith in
    let more = above-first (transmit_offset a c) (seen a w) in
    λ i. record {
      points = one i;
      above = more i;
      highest = (reach_with a c (reach_of a w)).highest;
      sender = (reach_with a c (reach_of a w)).sender;
      received = (reach_with a c (reach_of a w)).received;
    }

module _ (at : ℕ → Option ReplyObservation) (start : ℕ) (a : CounterPoint) where
  pub reach-start : record { points = 0; above = 0; highest = 0; sender = 0; received = 0 } ≡ reach_of a (points_from at start (start - start))
  unfolding received_maximum above0
  reach-start = start_none (reach_of a) at start (record { points = 0; above = 0; highest = 0; sender = 0; received = 0 }) refl

  pub reach-turn : (j : ℕ) → start ≤ j → (p : Option CounterPoint) (r r' : Reach) → p ≡ point_of (at j) → r' ≡ reach_next a p r
      → r ≡ reach_of a (points_from at start (j - start)) → r' ≡ reach_of a (points_from at start (j + 1 - start))
  reach-turn j l p r r' = turn (reach_of a) (reach_next a) (reach-first a) at start j l p r r'

-- no more counters than records, and no more above 0
next_few : (a : CounterPoint) (p : Option CounterPoint) (r : Reach) (m : ℕ) → (r.points ≤ m) × (r.above ≤ m) → ((reach_next a p r).points ≤ m + 1) × ((reach_next a p r).above ≤ m + 1)
next_few a None r m l = (omega (arith, l.0), omega (arith, l.1))
next_few a (Some c) r m l = (omega (arith, l.0), go (eqb (transmit_offset a c) 0))
  where
    go : (b : Bool) → tally (not b) r.above ≤ m + 1
    go true = omega (arith, l.1)
    go false = omega (arith, l.1)

pub reach_few : (a : CounterPoint) (p : Option CounterPoint) (r r' : Reach) (m : ℕ) → r' ≡ reach_next a p r → (r.points ≤ m) × (r.above ≤ m) → (r'.points ≤ m + 1) × (r'.above ≤ m + 1)
reach_few a p r r' m e l = subst (λ (x : Reach). (x.points ≤ m + 1) × (x.above ≤ m + 1)) (sym e) (next_few a p r m l)
