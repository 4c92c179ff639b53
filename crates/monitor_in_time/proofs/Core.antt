-- Q-10 of the core's calls: from a fresh monitor with any room of the right size, whatever it holds, by any calls, refused ones included.
-- Assumes nothing.
use Rattle.std.specs.Prelude.{Some}
use mathlib.Core.Path.{◌≡◌, refl, sym, ap, subst}
use mathlib.Core.Bool.{Bool, true, false}
use mathlib.Core.List.{List, [], ◌∷◌}
use Prim.Native.Nat.{ℕ, zero, suc, ◌≤◌, ◌<◌, ◌^◌}
use native.Mathlib.Omega.{arith}
use lib.Dec.{eqb}
use lib.ListN.{length}
use borrow.Author.Tests.{ne_eqb}
use Rattle.limits.specs.Limits.{capacity}
use Rattle.probe_queue.specs.declared.QueuedProbe.{QueuedProbe}
use Rattle.probe_queue.specs.Queue.{choose}
use Rattle.monitor.specs.declared.State.TheVariants.{Failed}
use Rattle.monitor.specs.Operations.{MonitorStand}
use Rattle.monitor.specs.States.{most_losses}
use Rattle.monitor_model.specs.Plain.{Plain, new, sent, reply, advance, idle, refusal, sent_refusal}
use Rattle.monitor_model.specs.Playing.{Call, sending, replying, advancing, idling, play_plain, play_ring, serve}
use Rattle.monitor_model.proofs.Standing.{Next}
use Rattle.monitor_model.proofs.Following.{agrees}
use Rattle.monitor_model.proofs.Model.{begins}
use Rattle.monitor_in_time.specs.Calls.{played, All}
use Rattle.monitor_in_time.specs.InTime.{counting, AllDue, AllQuiet, ComesWith, InTime}
use Rattle.monitor_in_time.specs.Core.{seen_plain, seen_stand, plain, core, fresh_stand, AnyCall}
use Rattle.monitor_in_time.proofs.Sound.{does, counting_positive, new_keeps}
use Rattle.monitor_in_time.proofs.InTime.{Steps, Models, holds}

-- a threshold is a u16, so the losses get there
pub counting_few : (threshold : ℕ) → threshold < 2 ^ 16 → counting threshold ≤ most_losses
counting_few threshold h = go (eqb threshold 0)
  where
    go : (b : Bool) → choose b 1 threshold ≤ most_losses
    go true = omega arith
    go false = omega (arith, h)

-- ---- the plain model

served-by : (n : ℕ) (p next : Plain) (c : Call) → next ≡ does c p → Steps (Some c) n p (serve n p next).plain
served-by zero p next c e = e
served-by (suc n) p next c e = ap (λ (b : Bool). choose b next p) (ne_eqb (suc n) 0 (λ h. omega (arith, h)))

pub plain-steps : (c : Call) (p : Plain) → Steps (Some c) (play_plain c p).number p (play_plain c p).plain
unfolding play_plain does
plain-steps (sending s t) p = served-by (sent_refusal p t) p (sent p s t) (sending s t) refl
plain-steps (replying s) p = served-by (refusal p) p (reply p s) (replying s) refl
plain-steps (advancing t) p = served-by (refusal p) p (advance p t) (advancing t) refl
plain-steps idling p = served-by (refusal p) p (idle p) idling refl

plain_models : Models plain AnyCall (λ (x p : Plain). x ≡ p)
plain_models = record {
  shows = λ x p e. ap seen_plain e;
  steps = λ x p e c w. ((play_plain c p).plain, ap (λ (r : Plain). (play_plain c r).plain) e, subst (λ (r : Plain). Steps (Some c) (play_plain c r).number p (play_plain c p).plain) (sym e) (plain-steps c p));
}

pub plain_in-time : (threshold timeout : ℕ) → threshold < 2 ^ 16 → InTime plain AnyCall (counting threshold) (new threshold timeout)
plain_in-time threshold timeout h =
    holds plain AnyCall (λ (x p : Plain). x ≡ p) plain_models (counting threshold) (counting_positive threshold) (counting_few threshold h)
    (new threshold timeout) (new threshold timeout) refl (new_keeps threshold timeout)

-- ---- the core

seen_next : (x : MonitorStand) (p : Plain) → Next x p → seen_stand x ≡ seen_plain p
seen_next x p n = ap seen_plain (sym n.1.0)

pub core_models : Models core AnyCall Next
core_models = record {
  shows = seen_next;
  steps = λ x p n c w.
      let q = (play_plain c p).plain in
      let a : ((play_ring c x).number ≡ (play_plain c p).number) × Next (play_ring c x).stand q =
      subst (λ (r : Plain). ((play_ring c x).number ≡ (play_plain c r).number) × Next (play_ring c x).stand (play_plain c r).plain) (sym n.1.0) (agrees x n.0 n.1.1 c) in
      (q, a.1, subst (λ (k : ℕ). Steps (Some c) k p q) (sym a.0) (plain-steps c p));
}

-- THE THEOREM
pub core_in_time : (threshold timeout : ℕ) (room : List QueuedProbe) → threshold < 2 ^ 16 → length room ≡ capacity → InTime core AnyCall (counting threshold) (fresh_stand threshold timeout room)
core_in_time threshold timeout room h long =
    holds core AnyCall Next core_models (counting threshold) (counting_positive threshold) (counting_few threshold h)
    (fresh_stand threshold timeout room) (new threshold timeout) (λ s. false, (refl, begins threshold timeout room long)) (new_keeps threshold timeout)

-- ---- the two parts of it, with names of their own

module _ (threshold timeout : ℕ) (room : List QueuedProbe) (h : threshold < 2 ^ 16) (long : length room ≡ capacity) (past : List Call) where
  -- a monitor reached from fresh
  abbrev reached : MonitorStand
  reached = played core (fresh_stand threshold timeout room) past

  any : (cs : List Call) → All AnyCall cs
  unfolding All
  any [] = tt
  any (c ∷ cs) = (tt, any cs)

  -- "if at least threshold probes are queued, and every queued deadline is at or before now, one served advance ends in Failed"
  pub failed-at-once : (now : ℕ) → (play_ring (advancing now) reached).number ≡ 0 → counting threshold ≤ length (seen_stand reached).queued → AllDue now (seen_stand reached).queued
      → (play_ring (advancing now) reached).stand.monitor.summary.state ≡ Failed
  failed-at-once now = (core_in_time threshold timeout room h long).at_once past (any past) (advancing now) tt now refl

  -- "from any such monitor with loss count 0 .., with no reply or idle in between, Failed comes with the advance that pops the threshold-th probe and with no earlier one"
  pub failed_in_time : reached.monitor.summary.consecutive_losses ≡ 0 → (since : List Call) → AllQuiet core reached since → ComesWith core (counting threshold) reached since
  failed_in_time none since = (core_in_time threshold timeout room h long).in_time past (any past) none since (any since)
