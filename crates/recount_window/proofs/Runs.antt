-- THE WINDOW OF THE HISTORY IS THE RUN OF RECORDS SINCE THE LAST THAT CLEARED IT. Assumes nothing.
use Rattle.std.specs.Prelude.{Option, None, Some}
use Rattle.call_types.specs.declared.ReplyObservation.{ReplyObservation}
use mathlib.Core.Path.{◌≡◌, refl, sym, ap, ◌∙◌}
use mathlib.Core.Bool.{Bool, true, false, cond, ◌&&◌}
use mathlib.Core.List.{List, [], ◌∷◌}
use Prim.Native.Nat.{ℕ, zero, suc, ◌+◌, ◌-◌, ◌≤◌}
use native.Mathlib.Omega.{arith}
use lib.Dec.{eqb, ltb}
use lib.ListN.{length}
use Rattle.call_types.specs.declared.CounterPoint.{CounterPoint}
use Rattle.history.specs.Counting.{has}
use Rattle.history.specs.Given.{ordinal_of, counters_of}
use Rattle.history.specs.DirectLoss.{mismatch, zeros, anchors, jumps, within, anchor_of, seen, transmit_offset, highest, on_window, direct_class, next_window, with_counters, window}
use Rattle.recount_seen.specs.Seen.{seen_at, events_of}
use Rattle.recount_observed.specs.Observed.{observation_at}
use Rattle.recount_observed.proofs.Laws.{grows}
use Rattle.recount_window.specs.Window.{point_by, point_of, join, clears, clears_at, clears_by, points_from, start_of, window_in}

-- ---- one record more, on any window

module _ (N : ℕ) where
  within-next : (c d : CounterPoint) (w : List CounterPoint) (j s f b : Bool)
      → next_window N (within j s f b) c (d ∷ w) ≡ cond (clears (within j s f b)) [] (c ∷ d ∷ w)
  within-next c d w true s f b = refl
  within-next c d w false true f b = refl
  within-next c d w false false true b = refl
  within-next c d w false false false true = refl
  within-next c d w false false false false = refl

  on_window_lem : (c : CounterPoint) (w : List CounterPoint) → next_window N (on_window N c w) c w ≡ cond (clears (on_window N c w)) [] (c ∷ w)
  on_window_lem c [] = go (eqb c.received.0 0 && eqb c.transmitted.0 0)
    where
      go : (b : Bool) → next_window N (cond b zeros anchors) c [] ≡ cond (clears (cond b zeros anchors)) [] (c ∷ [])
      go true = refl
      go false = refl
  on_window_lem c (d ∷ w) =
      within-next c d w (jumps (anchor_of d w) c) (has (seen (anchor_of d w) (d ∷ w)) (transmit_offset (anchor_of d w) c)) (eqb (length (d ∷ w)) N)
      (ltb (transmit_offset (anchor_of d w) c) (highest (anchor_of d w) (d ∷ w)))

  next_is : (n : Option ℕ) (x : Option CounterPoint) (w : List CounterPoint) → with_counters N n x w ≡ cond (clears_at N n x w) [] (join (point_by n x) w)
  unfolding direct_class
  next_is n None w = refl
  next_is None (Some c) w = refl
  next_is (Some n) (Some c) w = go (eqb c.sender.0 n)
    where
      go : (b : Bool) → next_window N (cond b (on_window N c w) mismatch) c w ≡ cond (clears (cond b (on_window N c w) mismatch)) [] (join (cond b (Some c) None) w)
      go true = on_window_lem c w
      go false = refl

  -- a window after one record more
  abbrev window_next : Option ReplyObservation → List CounterPoint → List CounterPoint
  window_next x w = cond (clears_by N x w) [] (join (point_of x) w)

  window_grows : (log marks : List ℕ) (n : ℕ) → window N (events_of log marks (suc n)) ≡ window_next (observation_at log marks n) (window N (events_of log marks n))
  unfolding window events_of
  window_grows log marks n =
      grows (window N) window_next (λ w. refl) (λ s o t p es. refl) (λ k p es. refl)
      (λ o es. next_is (ordinal_of o.ordinal) (counters_of o.counters) (window N es)) (seen_at log marks n) (events_of log marks n)

-- ---- the run

module _ (at : ℕ → Option ReplyObservation) (N : ℕ) where
  pub start-most : (n : ℕ) → start_of at N n ≤ n
  unfolding start_of
  start-most zero = omega arith
  start-most (suc n) = go (clears_by N (at n) (window_in at N n)) (start-most n)
    where
      go : (b : Bool) → start_of at N n ≤ n → cond b (suc n) (start_of at N n) ≤ suc n
      go true l = omega arith
      go false l = omega arith

  pub run_grows : (n : ℕ) → window_in at N (suc n) ≡ cond (clears_by N (at n) (window_in at N n)) [] (join (point_of (at n)) (window_in at N n))
  unfolding start_of points_from
  run_grows n = go (clears_by N (at n) (window_in at N n)) (start-most n)
    where
      more : (a k m : ℕ) → m ≡ suc k → a + k ≡ n → points_from at a m ≡ join (point_of (at n)) (points_from at a k)
      more a k m e f = ap (points_from at a) e ∙ ap (λ (i : ℕ). join (point_of (at i)) (points_from at a k)) f

      none_left : (m : ℕ) → m ≡ 0 → points_from at (suc n) m ≡ []
      none_left m e = ap (points_from at (suc n)) e

      go : (b : Bool) → start_of at N n ≤ n
          → points_from at (cond b (suc n) (start_of at N n)) (suc n - cond b (suc n) (start_of at N n)) ≡ cond b [] (join (point_of (at n)) (window_in at N n))
      go true l = none_left (suc n - suc n) (omega arith)
      go false l = more (start_of at N n) (n - start_of at N n) (suc n - start_of at N n) (omega arith) (omega arith)

-- THE THEOREM
pub window_is_a_run : (log marks : List ℕ) (N n : ℕ) → window N (events_of log marks n) ≡ window_in (observation_at log marks) N n
unfolding events_of window start_of points_from
window_is_a_run log marks N zero = refl
window_is_a_run log marks N (suc n) =
    window_grows N log marks n
    ∙ ap (λ (w : List CounterPoint). cond (clears_by N (observation_at log marks n) w) [] (join (point_of (observation_at log marks n)) w)) (window_is_a_run log marks N n)
    ∙ sym (run_grows (observation_at log marks) N n)
