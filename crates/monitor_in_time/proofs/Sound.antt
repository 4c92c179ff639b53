-- What holds of every plain monitor that is reached from fresh, call by call: its threshold stays, its losses fit a u32, it is Failed exactly where they are at
-- the threshold, and while it does not transmit nothing is queued and it is not Failed.
-- Assumes nothing.
use mathlib.Core.Path.{◌≡◌, refl, sym, ap, subst, ◌∙◌}
use mathlib.Core.Bool.{Bool, true, false, true≢false}
use mathlib.Core.List.{List, []}
use Prim.Native.Nat.{ℕ, zero, suc, ◌+◌, ◌≤◌, ◌<◌}
use native.Mathlib.Omega.{arith}
use lib.Dec.{eqb, leb, ltb}
use borrow.Author.Tests.{eqb-false, leb-true, leb-false, lt-leb}
use Rattle.probe_queue.specs.Queue.{choose}
use Rattle.monitor.specs.declared.State.{State}
use Rattle.monitor.specs.declared.State.TheVariants.{Idle, Active, Failed}
use Rattle.monitor.specs.declared.Summary.{Summary}
use Rattle.monitor.specs.States.{most_losses, same, losing, enters, failing, saturated, loses, hears, stops}
use Rattle.monitor_model.specs.Plain.{Sent, Plain, Left, new, sent, queue, start, pop_to, hear, reply, advancing, advance, idle}
use Rattle.monitor_model.specs.Playing.{Call, sending, replying, idling}
use Rattle.monitor_model.specs.Playing as playing
use Rattle.monitor_in_time.specs.InTime.{counting}
use Rattle.monitor_in_time.proofs.Losses.{due, all_lost, saturated_few, saturated_more, saturated-none}

-- ---- the summary

pub record Kept (threshold : ℕ) (s : Summary) : Type 0 where
  pub counts : s.loss_threshold ≡ threshold
  pub few : s.consecutive_losses ≤ most_losses
  pub failed : same Failed s.state ≡ leb threshold s.consecutive_losses

-- no losses are below a threshold
below : (threshold : ℕ) → 0 < threshold → false ≡ leb threshold 0
below threshold h = sym (lt-leb threshold 0 h)

-- what stands after more losses
record Lost (s next : Summary) (more : ℕ) (at : Bool) : Type 0 where
  pub counts : next.loss_threshold ≡ s.loss_threshold
  pub losses : next.consecutive_losses ≡ more
  pub failed : same Failed next.state ≡ at

lost-by : (s : Summary) (more : ℕ) (a b : Bool) → same Failed s.state ≡ b → (a ≡ false → b ≡ false)
    → Lost s (choose a (choose b (losing more s) (enters Failed (losing more s))) (losing more s)) more a
unfolding enters same
lost-by s more true true e h = record { counts = refl; losses = refl; failed = e }
lost-by s more true false e h = record { counts = refl; losses = refl; failed = refl }
lost-by s more false b e h = record { counts = refl; losses = refl; failed = e ∙ h refl }

module _ (threshold : ℕ) (s : Summary) (k : Kept threshold s) where
  abbrev l : ℕ
  l = s.consecutive_losses

  -- not Failed at more losses, so not Failed at these
  not_yet : (more : ℕ) → l ≤ more → leb s.loss_threshold more ≡ false → same Failed s.state ≡ false
  not_yet more h e = k.failed ∙ go (leb threshold l) refl
    where
      go : (b : Bool) → leb threshold l ≡ b → b ≡ false
      go true f = absurd (omega (arith, leb-true threshold l f, leb-false s.loss_threshold more e, k.counts, h))
      go false f = refl

  fails_at : (more : ℕ) → l ≤ more → Lost s (failing (losing more s)) more (leb s.loss_threshold more)
  fails_at more h = lost-by s more (leb s.loss_threshold more) (same Failed s.state) refl (not_yet more h)

  -- LOSSES ARE POPS
  pub lost_is : (n : ℕ) → (loses n s).consecutive_losses ≡ saturated l n
  unfolding loses
  lost_is zero = sym (saturated-none l k.few)
  lost_is (suc n) = (fails_at (saturated l (suc n)) (saturated_more l (suc n) k.few)).losses

  pub lost-kept : (n : ℕ) → Kept threshold (loses n s)
  unfolding loses
  lost-kept zero = k
  lost-kept (suc n) =
      let more = saturated l (suc n) in
      let f = fails_at more (saturated_more l (suc n) k.few) in
      record {
        counts = f.counts ∙ k.counts;
        few = omega (arith, f.losses, saturated_few l (suc n));
        failed = f.failed ∙ ap (λ (t : ℕ). leb t more) k.counts ∙ ap (λ (n : ℕ). leb threshold n) (sym f.losses);
      }

  pub heard-kept : 0 < threshold → Kept threshold (hears s)
  unfolding enters same
  heard-kept h = go s.state refl
    where
      go : (x : State) → s.state ≡ x → Kept threshold (choose (same Active x) (losing 0 s) (enters Active (losing 0 s)))
      go Idle e = record { counts = k.counts; few = omega arith; failed = below threshold h }
      go Active e = record { counts = k.counts; few = omega arith; failed = ap (same Failed) e ∙ below threshold h }
      go Failed e = record { counts = k.counts; few = omega arith; failed = below threshold h }

  abbrev stops_at : Bool → State → Summary
  stops_at t x =
      choose (same Idle x)
      (choose t (record { state = s.state; loss_threshold = s.loss_threshold; consecutive_losses = l; active_notifications = s.active_notifications; failed_notifications = s.failed_notifications; idle_notifications = s.idle_notifications + 1 }) s)
      (enters Idle s)

  pub stopped-kept : 0 < threshold → (tr : Bool) → Kept threshold (stops tr s) × (same Failed (stops tr s).state ≡ false)
  unfolding enters same
  stopped-kept h tr = go tr s.state refl
    where
      go : (t : Bool) (x : State) → s.state ≡ x → Kept threshold (stops_at t x) × (same Failed (stops_at t x).state ≡ false)
      go true Idle e = (record { counts = k.counts; few = k.few; failed = k.failed }, ap (same Failed) e)
      go false Idle e = (k, ap (same Failed) e)
      go t Active e = (record { counts = k.counts; few = omega arith; failed = below threshold h }, refl)
      go t Failed e = (record { counts = k.counts; few = omega arith; failed = below threshold h }, refl)

-- ---- the monitor

pub record Keeps (threshold : ℕ) (p : Plain) : Type 0 where
  pub summary : Kept threshold p.summary
  pub silent : p.transmitting ≡ false → (p.probes ≡ []) × (same Failed p.summary.state ≡ false)

-- what a served call does
unfoldable pub does : Call → Plain → Plain
does (sending s t) p = sent p s t
does (replying s) p = reply p s
does (playing.advancing t) p = advance p t
does idling p = idle p

pub counting_positive : (threshold : ℕ) → 0 < counting threshold
counting_positive threshold = go (eqb threshold 0) refl
  where
    go : (b : Bool) → eqb threshold 0 ≡ b → 0 < choose b 1 threshold
    go true e = omega arith
    go false e = positive threshold (eqb-false threshold 0 e)
      where
        positive : (n : ℕ) → (n ≡ 0 → ⊥) → 0 < n
        positive zero h = absurd (h refl)
        positive (suc n) h = omega arith

pub new_keeps : (threshold timeout : ℕ) → Keeps (counting threshold) (new threshold timeout)
unfolding same
new_keeps threshold timeout = record {
  summary = record { counts = refl; few = omega arith; failed = below (counting threshold) (counting_positive threshold) };
  silent = λ e. (refl, refl);
}

module _ (threshold : ℕ) (positive : 0 < threshold) (p : Plain) (k : Keeps threshold p) where
  sent_keeps : (s t : ℕ) → Keeps threshold (sent p s t)
  sent_keeps s t = go (ltb 0 p.timeout)
    where
      go : (b : Bool) → Keeps threshold (choose b (queue p s t) (start p))
      go true = record { summary = k.summary; silent = λ e. absurd (true≢false e) }
      go false = record { summary = k.summary; silent = λ e. absurd (true≢false e) }

  heard_keeps : (left : Left) (tr : Bool) → p.transmitting ≡ tr → Keeps threshold (choose tr (hear p left) p)
  heard_keeps left true e = record { summary = heard-kept threshold p.summary k.summary positive; silent = λ f. absurd (true≢false (sym e ∙ f)) }
  heard_keeps left false e = k

  reply_keeps : (s : ℕ) → Keeps threshold (reply p s)
  reply_keeps s = heard_keeps (choose (p.received s) (pop_to s p.probes p.received) (record { probes = p.probes; received = p.received })) p.transmitting refl

  -- what `advance` does: one loss for each probe that it pops
  pub record Advances (now : ℕ) : Type 0 where
    pub keeps : Keeps threshold (advance p now)
    pub losses : (advance p now).summary.consecutive_losses ≡ saturated p.summary.consecutive_losses (due now p.probes)

  pub advances : (now : ℕ) → Advances now
  advances now = go p.transmitting refl
    where
      -- a monitor that does not transmit has nothing to pop
      still : p.transmitting ≡ false → ((advancing p.transmitting now p.summary p.probes p.received).summary ≡ p.summary) × ((advancing p.transmitting now p.summary p.probes p.received).probes ≡ []) × (due now p.probes ≡ 0)
      still e = let none = (k.silent e).0 in (
        ap (λ (xs : List Sent). (advancing p.transmitting now p.summary xs p.received).summary) none,
        ap (λ (xs : List Sent). (advancing p.transmitting now p.summary xs p.received).probes) none,
        ap (due now) none,
      )

      go : (tr : Bool) → p.transmitting ≡ tr → Advances now
      go true e =
          let lost : (advance p now).summary ≡ loses (due now p.probes) p.summary =
          ap (λ (b : Bool). (advancing b now p.summary p.probes p.received).summary) e ∙ all_lost now p.summary p.probes p.received k.summary.few in
          record {
            keeps = record {
              summary = subst (λ (x : Summary). Kept threshold x) (sym lost) (lost-kept threshold p.summary k.summary (due now p.probes));
              silent = λ f. absurd (true≢false (sym e ∙ f));
            };
            losses = ap (λ (x : Summary). x.consecutive_losses) lost ∙ lost_is threshold p.summary k.summary (due now p.probes);
          }
      go false e =
          let s = still e in
          record {
            keeps = record {
              summary = subst (λ (x : Summary). Kept threshold x) (sym s.0) k.summary;
              silent = λ f. (s.1, ap (λ (x : Summary). same Failed x.state) s.0 ∙ (k.silent e).1);
            };
            losses = ap (λ (x : Summary). x.consecutive_losses) s.0 ∙ sym (saturated-none p.summary.consecutive_losses k.summary.few) ∙ ap (saturated p.summary.consecutive_losses) (sym s.2);
          }

  idle_keeps : Keeps threshold (idle p)
  idle_keeps = let stopped = stopped-kept threshold p.summary k.summary positive p.transmitting in record { summary = stopped.0; silent = λ e. (refl, stopped.1) }

  pub does_keeps : (c : Call) → Keeps threshold (does c p)
  unfolding does
  does_keeps (sending s t) = sent_keeps s t
  does_keeps (replying s) = reply_keeps s
  does_keeps (playing.advancing now) = (advances now).keeps
  does_keeps idling = idle_keeps
