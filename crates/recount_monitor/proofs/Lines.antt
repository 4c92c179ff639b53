-- THE LINE BY THE FRONTS IS THE PLAIN MONITOR'S. Assumes nothing.
use Rattle.std.specs.Prelude.{Option, Some, None}
use Rattle.call_types.specs.declared.SentProbe.{SentProbe}
use mathlib.Core.Path.{◌≡◌, refl, sym, ap, subst, ◌∙◌}
use mathlib.Core.Bool.{Bool, true, false, cond}
use mathlib.Core.List.{List}
use Prim.Native.Nat.{ℕ, zero, suc, ◌+◌, ◌-◌, ◌≤◌}
use native.Mathlib.Omega.{arith}
use lib.Dec.{eqb, leb, ltb}
use Rattle.probe_queue.specs.Queue.{choose}
use Rattle.monitor.specs.declared.State.{State}
use Rattle.monitor.specs.declared.State.TheVariants as state
use Rattle.monitor.specs.declared.Summary.{Summary}
use Rattle.monitor.specs.States.{most_losses, same, losing, enters, transition, failing, stops}
use Rattle.monitor_model.specs.Plain.{lose}
use Rattle.report.specs.declared.figures.Session.{Session}
use Rattle.report.specs.declared.figures.Session.TheVariants as session
use Rattle.report.specs.declared.figures.Session.TheVariants.{Idle, Active, Failed}
use Rattle.recount_queue.specs.declared.Move.{Move}
use Rattle.recount_queue.specs.declared.Move.TheVariants.{Sends, Hears, Advances, Halts, Rests}
use Rattle.recount_queue.specs.Moves.{queued_at}
use Rattle.recount_queue.specs.Queue.{one_if, probes_in, front_by}
use Rattle.recount_queue.specs.Track.{lost, Track, plain_in, next_of, track_in}
use Rattle.recount_queue.proofs.Follows.{follows}
use Rattle.recount_monitor.specs.Fronts.{front_at, Fronted}
use Rattle.recount_monitor.specs.Session.{shown, session_in, loss_more, lose_one, lose_if, lost_in, heard, halted, line_next, line_in}
use Rattle.recount_monitor.proofs.Room.{Tracks, tracks}

-- ---- one summary

heard-shown : (s : Summary) → shown (transition state.Active (losing 0 s)) ≡ Active 0
unfolding same enters
heard-shown s = go s.state refl
  where
    go : (x : State) → s.state ≡ x → shown (transition state.Active (losing 0 s)) ≡ Active 0
    go state.Idle e = rw e
    go state.Active e = rw e
    go state.Failed e = rw e

halted-shown : (on : Bool) (s : Summary) → shown (stops on s) ≡ halted (shown s)
unfolding same enters
halted-shown on s = go s.state refl on
  where
    go : (x : State) → s.state ≡ x → (on : Bool) → shown (stops on s) ≡ halted (shown s)
    go state.Idle e true = rw e
    go state.Idle e false = rw e
    go state.Active e on = rw e
    go state.Failed e on = rw e

abbrev more : Summary → ℕ
more s = choose (ltb s.consecutive_losses most_losses) (s.consecutive_losses + 1) most_losses

more_is : (s : Summary) → more s ≡ loss_more s.consecutive_losses
more_is s = go (ltb s.consecutive_losses most_losses)
  where
    go : (b : Bool) → choose b (s.consecutive_losses + 1) most_losses ≡ cond b (s.consecutive_losses + 1) most_losses
    go true = refl
    go false = refl

lost-shown : (s : Summary) → shown (lose true s) ≡ lose_one s.loss_threshold (shown s)
unfolding same enters
lost-shown s = go s.state refl (more s) (more_is s)
  where
    go : (x : State) → s.state ≡ x → (n : ℕ) → n ≡ loss_more s.consecutive_losses → shown (failing (losing n s)) ≡ lose_one s.loss_threshold (shown s)
    go x e n f = by x e (leb s.loss_threshold n) refl
      where
        by : (x : State) → s.state ≡ x → (b : Bool) → leb s.loss_threshold n ≡ b → shown (failing (losing n s)) ≡ lose_one s.loss_threshold (shown s)
        by state.Idle e true g = rw (e, ← f, g)
        by state.Idle e false g = rw (e, ← f, g)
        by state.Active e true g = rw (e, ← f, g)
        by state.Active e false g = rw (e, ← f, g)
        by state.Failed e true g = rw (e, ← f, g)
        by state.Failed e false g = rw (e, ← f, g)

-- no call changes the threshold
lost_threshold : (s : Summary) → (lose true s).loss_threshold ≡ s.loss_threshold
unfolding same enters
lost_threshold s = go s.state refl (leb s.loss_threshold (more s)) refl
  where
    go : (x : State) → s.state ≡ x → (b : Bool) → leb s.loss_threshold (more s) ≡ b → (failing (losing (more s) s)).loss_threshold ≡ s.loss_threshold
    go state.Idle e true g = rw (e, g)
    go state.Idle e false g = rw (e, g)
    go state.Active e true g = rw (e, g)
    go state.Active e false g = rw (e, g)
    go state.Failed e true g = rw (e, g)
    go state.Failed e false g = rw (e, g)

heard_threshold : (s : Summary) → (transition state.Active (losing 0 s)).loss_threshold ≡ s.loss_threshold
unfolding same enters
heard_threshold s = go s.state refl
  where
    go : (x : State) → s.state ≡ x → (transition state.Active (losing 0 s)).loss_threshold ≡ s.loss_threshold
    go state.Idle e = rw e
    go state.Active e = rw e
    go state.Failed e = rw e

halted_threshold : (on : Bool) (s : Summary) → (stops on s).loss_threshold ≡ s.loss_threshold
unfolding same enters
halted_threshold on s = go s.state refl on
  where
    go : (x : State) → s.state ≡ x → (on : Bool) → (stops on s).loss_threshold ≡ s.loss_threshold
    go state.Idle e true = rw e
    go state.Idle e false = rw e
    go state.Active e on = rw e
    go state.Failed e on = rw e

-- ---- the probes that an advance passes

none-lost : (n : ℕ) (s : Summary) → lost false n s ≡ s
none-lost zero s = refl
none-lost (suc n) s = none-lost n s

module _ (threshold : ℕ) (probe : ℕ → Option SentProbe) where
  all_lost : (k a : ℕ) (s : Summary) → s.loss_threshold ≡ threshold → shown (lost true (probes_in probe a k) s) ≡ lost_in threshold probe (shown s) a k
  unfolding probes_in lost_in
  all_lost zero a s e = refl
  all_lost (suc k) a s e = go (probe a) (λ s e. all_lost k (suc a) s e)
    where
      go : (q : Option SentProbe) → ((s : Summary) → s.loss_threshold ≡ threshold → shown (lost true (probes_in probe (suc a) k) s) ≡ lost_in threshold probe (shown s) (suc a) k)
          → shown (lost true (one_if q (probes_in probe (suc a) k)) s) ≡ lost_in threshold probe (lose_if threshold q (shown s)) (suc a) k
      go None ih = ih s e
      go (Some p) ih = ih (lose true s) (lost_threshold s ∙ e) ∙ ap (λ (x : Session). lost_in threshold probe x (suc a) k) (lost-shown s ∙ ap (λ (t : ℕ). lose_one t (shown s)) e)

  all_threshold : (n : ℕ) (on : Bool) (s : Summary) → (lost on n s).loss_threshold ≡ s.loss_threshold
  all_threshold zero on s = refl
  all_threshold (suc n) true s = all_threshold n true (lose true s) ∙ lost_threshold s
  all_threshold (suc n) false s = all_threshold n false s

-- ---- record by record

module _ (threshold timeout : ℕ) (moves : ℕ → Move) (fronts : List ℕ) (above : eqb threshold 0 ≡ false) where
  -- the line, and the threshold as it was
  record Lined (n : ℕ) (s : Summary) : Type 0 where
    line : shown s ≡ line_in threshold timeout moves fronts n
    same_threshold : s.loss_threshold ≡ threshold

  module _ (n : ℕ) (t : Track) (ok : Tracks threshold timeout moves fronts n t) (after : Tracks threshold timeout moves fronts (suc n) (next_of threshold timeout moves (moves n) n t)) (so : Lined n t.summary) where
    line-next : (m : Move) → moves n ≡ m → line_next threshold timeout moves fronts n m (line_in threshold timeout moves fronts n) ≡ line_in threshold timeout moves fronts (suc n)
    unfolding line_in
    line-next m e = ap (λ (y : Move). line_next threshold timeout moves fronts n y (line_in threshold timeout moves fronts n)) (sym e)

    hears-next : (q : ℕ) → moves n ≡ Hears q → (b : Bool) → t.on ≡ b → Lined (suc n) (next_of threshold timeout moves (Hears q) n t).summary
    hears-next q m true o =
        rw o (record {
          line = heard-shown t.summary ∙ ap (λ (b : Bool). heard b (line_in threshold timeout moves fronts n)) (sym o ∙ ok.on) ∙ line-next (Hears q) m;
          same_threshold = heard_threshold t.summary ∙ so.same_threshold;
        })
    hears-next q m false o =
        rw o (record {
          line = so.line ∙ ap (λ (b : Bool). heard b (line_in threshold timeout moves fronts n)) (sym o ∙ ok.on) ∙ line-next (Hears q) m;
          same_threshold = so.same_threshold;
        })

    advances-next : (u : ℕ) → moves n ≡ Advances u → (next_of threshold timeout moves (Advances u) n t).front ≡ front_at fronts (suc n) → (b : Bool) → t.on ≡ b
        → Lined (suc n) (next_of threshold timeout moves (Advances u) n t).summary
    advances-next u m f true o =
        rw o (record {
          line =
              all_lost threshold (queued_at timeout moves) (front_by timeout (queued_at timeout moves) u t.front n - t.front) t.front t.summary so.same_threshold
              ∙ ap (λ (x : Session). lost_in threshold (queued_at timeout moves) x t.front (front_by timeout (queued_at timeout moves) u t.front n - t.front)) so.line
              ∙ ap (λ (b : ℕ). lost_in threshold (queued_at timeout moves) (line_in threshold timeout moves fronts n) t.front (b - t.front)) f
              ∙ ap (λ (a : ℕ). lost_in threshold (queued_at timeout moves) (line_in threshold timeout moves fronts n) a (front_at fronts (suc n) - a)) ok.front
              ∙ ap (λ (b : Bool). cond b (lost_in threshold (queued_at timeout moves) (line_in threshold timeout moves fronts n) (front_at fronts n) (front_at fronts (suc n) - front_at fronts n)) (line_in threshold timeout moves fronts n)) (sym o ∙ ok.on)
              ∙ line-next (Advances u) m;
          same_threshold = all_threshold threshold (queued_at timeout moves) (probes_in (queued_at timeout moves) t.front (front_by timeout (queued_at timeout moves) u t.front n - t.front)) true t.summary ∙ so.same_threshold;
        })
    advances-next u m f false o =
        rw (o, none-lost) (record {
          line =
              so.line
              ∙ ap (λ (b : Bool). cond b (lost_in threshold (queued_at timeout moves) (line_in threshold timeout moves fronts n) (front_at fronts n) (front_at fronts (suc n) - front_at fronts n)) (line_in threshold timeout moves fronts n)) (sym o ∙ ok.on)
              ∙ line-next (Advances u) m;
          same_threshold = so.same_threshold;
        })

    next : (m : Move) → moves n ≡ m → Lined (suc n) (next_of threshold timeout moves m n t).summary
    next (Sends s) m = record { line = so.line ∙ line-next (Sends s) m; same_threshold = so.same_threshold }
    next (Hears q) m = hears-next q m t.on refl
    next (Advances u) m = advances-next u m (subst (λ (y : Move). (next_of threshold timeout moves y n t).front ≡ front_at fronts (suc n)) m after.front) t.on refl
    next Halts m = record {
      line = halted-shown t.on t.summary ∙ ap halted so.line ∙ line-next Halts m;
      same_threshold = halted_threshold t.on t.summary ∙ so.same_threshold;
    }
    next Rests m = record { line = so.line ∙ line-next Rests m; same_threshold = so.same_threshold }

  lined : (n : ℕ) → Fronted timeout moves fronts n → (j : ℕ) → j ≤ n → Lined j (track_in threshold timeout moves j).summary
  unfolding track_in line_in
  lined n ok zero l = record { line = refl; same_threshold = ap (λ (b : Bool). choose b 1 threshold) above }
  lined n ok (suc j) l =
      next j (track_in threshold timeout moves j) (tracks threshold timeout moves fronts n ok j (omega arith)) (tracks threshold timeout moves fronts n ok (suc j) l) (lined n ok j (omega arith)) (moves j) refl

  -- THE THEOREM
  pub line_is : (n : ℕ) → Fronted timeout moves fronts n → line_in threshold timeout moves fronts n ≡ session_in threshold timeout moves n
  unfolding session_in
  line_is n ok =
      sym (lined n ok n (omega arith)).line
      ∙ ap shown (sym (follows threshold timeout moves n).summary)
      ∙ ap (λ (b : Bool). cond b session.None (shown (plain_in threshold timeout moves n).summary)) (sym above)
