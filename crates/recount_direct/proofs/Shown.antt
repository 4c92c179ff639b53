-- What is missing in a window, by how far it reaches. Assumes nothing.
use Rattle.std.specs.Prelude.{Some, None}
use mathlib.Core.Path.{◌≡◌, refl, sym, ap, subst, ◌∙◌}
use mathlib.Core.Bool.{Bool, true, false, cond}
use mathlib.Core.List.{List, [], ◌∷◌}
use Prim.Native.Nat.{ℕ, suc, ◌-◌, ◌≤◌}
use native.Mathlib.Omega.{arith}
use lib.Dec.{leb}
use lib.ListN.{length}
use borrow.Author.Tests.{le-ltb}
use Rattle.limits.specs.Limits.{capacity}
use Rattle.call_types.specs.declared.CounterPoint.{CounterPoint}
use Rattle.history.specs.DirectLoss.{seen, highest, sender_maximum, received_maximum, anchor_of, anchor, missing, above0, forward_missing, spans, window}
use Rattle.history.proofs.Missing.{Clean, Distinct, window_clean, missing_is, missing-present, present-distinct, largest_bounds}
use Rattle.report.specs.declared.figures.Missing.{Missing}
use Rattle.recount_window.specs.declared.Reach.{Reach}
use Rattle.recount_window.specs.Reach.{reach_of}
use Rattle.recount_seen.specs.Seen.{events_of}
use Rattle.recount_observed.specs.Observed.{observation_at}
use Rattle.recount_window.specs.Window.{points_from, start_of}
use Rattle.recount_window.proofs.Runs.{start-most, window_is_a_run}
use Rattle.recount_direct.specs.Missing.{value_of, missing_of}
use Rattle.recount_class.specs.Reached.{no_missing, missing_by}

-- the highest offset less the seen ones above 0 is how many of 1 to the highest are missing
module _ (a : CounterPoint) (w : List CounterPoint) (clean : Distinct (seen a w)) where
  reverse_is : highest a w - above0 (seen a w) ≡ missing (highest a w) (seen a w)
  reverse_is = sym (missing_is (highest a w) (seen a w) clean (largest_bounds (seen a w)))

  pub above_most : above0 (seen a w) ≤ highest a w
  above_most = omega (arith, missing-present (highest a w) (seen a w), present-distinct (highest a w) (seen a w) clean (largest_bounds (seen a w)))

-- by the forward figure: shown, or absent where it would be negative
forward_by : (b : Bool) (n m : ℕ)
    → ◌≡◌ {A = Missing} (cond b (record { forward = Some n; reverse = Some m }) (record { forward = None; reverse = Some m })) (record { forward = value_of (cond b (Some n) None); reverse = Some m })
forward_by true n m = refl
forward_by false n m = refl

module _ (a : CounterPoint) where
  seen_clean : (w : List CounterPoint) → Some a ≡ anchor w → Clean w → Distinct (seen a w)
  unfolding anchor
  seen_clean [] e g = tt
  seen_clean (d ∷ w) e g = let same : anchor_of d w ≡ a = cc in subst (λ (b : CounterPoint). Distinct (seen b (d ∷ w))) same g

  -- what the code subtracts is not more than what it subtracts from
  pub reach_sound : (w : List CounterPoint) → Some a ≡ anchor w → Clean w → (reach_of a w).above ≤ (reach_of a w).highest
  reach_sound w e g = above_most a w (seen_clean w e g)

  missing_from : (c d : CounterPoint) (w : List CounterPoint) → a ≡ anchor_of d w → Distinct (seen a (c ∷ d ∷ w)) → missing_by (reach_of a (c ∷ d ∷ w)) ≡ missing_of (spans (c ∷ d ∷ w))
  unfolding spans
  missing_from c d w same g =
      let v : List CounterPoint = c ∷ d ∷ w in
      rw (le-ltb (suc (suc (length w))) 2 (omega arith))
      (forward_by (leb (received_maximum a v) (sender_maximum a v)) (sender_maximum a v - received_maximum a v) (highest a v - above0 (seen a v))
      ∙ ap (λ (m : ℕ). record { forward = value_of (forward_missing (sender_maximum a v) (received_maximum a v)); reverse = Some m }) (reverse_is a v g)
      ∙ ap (λ (b : CounterPoint). record { forward = value_of (forward_missing (sender_maximum b v) (received_maximum b v)); reverse = Some (missing (highest b v) (seen b v)) }) same)

  pub missing_reached : (w : List CounterPoint) → Some a ≡ anchor w → Clean w → missing_by (reach_of a w) ≡ missing_of (spans w)
  unfolding anchor spans anchor_of
  missing_reached [] e g = refl
  missing_reached (c ∷ []) e g = refl
  missing_reached (c ∷ d ∷ w) e g = let same : a ≡ anchor_of d w = cc in missing_from c d w same (seen_clean (c ∷ d ∷ w) e g)

-- and without an anchor
pub missing-none : (w : List CounterPoint) → None ≡ anchor w → no_missing ≡ missing_of (spans w)
unfolding anchor spans
missing-none [] e = refl
missing-none (c ∷ w) e = absurd (let z : ◌≡◌ {A = ℕ} 0 1 = cc in omega arith)

-- ---- of the window that a log's records leave

module _ (log marks : List ℕ) (n start : ℕ) (is-start : start ≡ start_of (observation_at log marks) capacity n) where
  pub start_fits : start ≤ n
  start_fits = subst (λ (m : ℕ). m ≤ n) (sym is-start) (start-most (observation_at log marks) capacity n)

  abbrev run : List CounterPoint
  run = points_from (observation_at log marks) start (n - start)

  run_window : run ≡ window capacity (events_of log marks n)
  run_window = ap (λ (a : ℕ). points_from (observation_at log marks) a (n - a)) is-start ∙ sym (window_is_a_run log marks capacity n)

  run_clean : Clean run
  run_clean = subst Clean (sym run_window) (window_clean capacity (events_of log marks n))

  pub none-missing : None ≡ anchor run → no_missing ≡ missing_of (spans (window capacity (events_of log marks n)))
  none-missing e = missing-none run e ∙ ap (λ (w : List CounterPoint). missing_of (spans w)) run_window

  module _ (a : CounterPoint) (e : Some a ≡ anchor run) (q : Reach) (reached : q ≡ reach_of a run) where
    pub reach-fits : q.above ≤ q.highest
    reach-fits = subst (λ (x : Reach). x.above ≤ x.highest) (sym reached) (reach_sound a run e run_clean)

    pub missing_says : (m : Missing) → m ≡ missing_by q → m ≡ missing_of (spans (window capacity (events_of log marks n)))
    missing_says m h = h ∙ ap missing_by reached ∙ missing_reached a run e run_clean ∙ ap (λ (w : List CounterPoint). missing_of (spans w)) run_window
