-- The statement of Q-10, of any calls whose monitor is the plain model's: once for the core's calls, a host's words and links.
-- Assumes nothing.
use Rattle.std.specs.Prelude.{Option, None, Some}
use mathlib.Core.Path.{◌≡◌, refl, sym, ap, subst, ◌∙◌}
use mathlib.Core.Bool.{Bool, true, false, true≢false}
use mathlib.Core.List.{List, [], ◌∷◌}
use Prim.Native.Nat.{ℕ, zero, suc, ◌+◌, ◌-◌, ◌≤◌, ◌<◌}
use native.Mathlib.Omega.{arith}
use lib.Dec.{leb, ltb}
use lib.ListN.{length}
use borrow.Author.Tests.{leb-true, leb-false, le-leb}
use Rattle.monitor.specs.declared.State.{State}
use Rattle.monitor.specs.declared.State.TheVariants.{Idle, Active, Failed}
use Rattle.monitor.specs.States.{most_losses, same, saturated}
use Rattle.probe_queue.specs.Queue.{choose}
use Rattle.monitor_model.specs.Plain.{Sent, Plain, queue, start, advance}
use Rattle.monitor_model.specs.Playing.{Call, sending, replying, advancing, idling}
use Rattle.monitor_in_time.specs.Calls.{Seen, Monitored, played, All}
use Rattle.monitor_in_time.specs.InTime.{Fails, AllDue, pops, Quiet, Sound, popped, AllQuiet, ComesWith, InTime}
use Rattle.monitor_in_time.specs.Core.{seen_plain}
use Rattle.monitor_in_time.proofs.Losses.{due, all_due, left_and_due, reaches, short, saturated-none, saturated_more, saturated_twice}
use Rattle.monitor_in_time.proofs.Sound.{Keeps, does, advances, does_keeps}

-- what a call with this number makes of the plain monitor, by the call of the monitor that it makes
abbrev pub Steps : Option Call → ℕ → Plain → Plain → Type 0
Steps None n p q = q ≡ p
Steps (Some c) zero p q = q ≡ does c p
Steps (Some c) (suc n) p q = q ≡ p

-- Stands x p: x shows the plain monitor p. It does after each call too.
pub record Models {C X : Type 0} (on : Monitored C X) (Fits : C → Type 0) (Stands : X → Plain → Type 0) : Type 0 where
  pub shows : (x : X) (p : Plain) → Stands x p → on.seen x ≡ seen_plain p
  pub steps : (x : X) (p : Plain) → Stands x p → (c : C) → Fits c → (q : Plain) × Stands (on.after x c) q × Steps (on.drives x c) (on.number x c) p q

-- ---- the state, from the losses

failed_is : (x : State) → same Failed x ≡ true → x ≡ Failed
unfolding same
failed_is Idle e = absurd (true≢false (sym e))
failed_is Active e = absurd (true≢false (sym e))
failed_is Failed e = refl

is_failed : (x : State) → x ≡ Failed → same Failed x ≡ true
unfolding same
is_failed x e = ap (same Failed) e

module _ (threshold : ℕ) (p : Plain) (k : Keeps threshold p) where
  abbrev losses : ℕ
  losses = p.summary.consecutive_losses

  pub fails_from : threshold ≤ losses → p.summary.state ≡ Failed
  fails_from h = failed_is p.summary.state (k.summary.failed ∙ le-leb threshold losses h)

  pub at_threshold : p.summary.state ≡ Failed → threshold ≤ losses
  at_threshold e = leb-true threshold losses (sym k.summary.failed ∙ is_failed p.summary.state e)

  transmits : (tr : Bool) → p.transmitting ≡ tr → (p.transmitting ≡ false → ⊥) → p.transmitting ≡ true
  transmits true e h = e
  transmits false e h = absurd (h e)

  below : (b : Bool) → leb threshold losses ≡ b → (p.summary.state ≡ Failed → ⊥) → losses < threshold
  below true e h = absurd (h (fails_from (leb-true threshold losses e)))
  below false e h = leb-false threshold losses e

  pub sound : Sound threshold (seen_plain p)
  sound = record {
    counts = k.summary.counts;
    queued_is_transmitting = λ h. transmits p.transmitting refl (λ e. omega (arith, h, ap length (k.silent e).0));
    failed_is_transmitting = λ f. transmits p.transmitting refl (λ e. true≢false (sym (is_failed p.summary.state f) ∙ (k.silent e).1));
    not_failed-is_below = below (leb threshold losses) refl;
    failed_is_not_below = at_threshold;
  }

-- ---- one call

module _ (threshold : ℕ) (positive : 0 < threshold) (p : Plain) (k : Keeps threshold p) (q : Plain) where
  step_keeps : (d : Option Call) (n : ℕ) → Steps d n p q → Keeps threshold q
  step_keeps None n e = subst (λ (r : Plain). Keeps threshold r) (sym e) k
  step_keeps (Some c) zero e = subst (λ (r : Plain). Keeps threshold r) (sym e) (does_keeps threshold positive p k c)
  step_keeps (Some c) (suc n) e = subst (λ (r : Plain). Keeps threshold r) (sym e) k

  abbrev Lost : ℕ → Type 0
  Lost n = q.summary.consecutive_losses ≡ saturated p.summary.consecutive_losses n

  none-lost : q.summary.consecutive_losses ≡ p.summary.consecutive_losses → Lost 0
  none-lost e = e ∙ sym (saturated-none p.summary.consecutive_losses k.summary.few)

  same_losses : q ≡ p → q.summary.consecutive_losses ≡ p.summary.consecutive_losses
  same_losses e = ap (λ (r : Plain). r.summary.consecutive_losses) e

  sent_losses : (s t : ℕ) (b : Bool) → (choose b (queue p s t) (start p)).summary.consecutive_losses ≡ p.summary.consecutive_losses
  sent_losses s t true = refl
  sent_losses s t false = refl

  advance-pops : (now : ℕ) → length p.probes - length (advance p now).probes ≡ due now p.probes
  advance-pops now = omega (arith, left_and_due p.transmitting now p.summary p.probes p.received)

  -- LOSSES ARE POPS, where no reply and no idle is served
  step_losses : (d : Option Call) (n : ℕ) → Quiet d n → Steps d n p q → Lost (pops d (seen_plain p) (seen_plain q))
  unfolding does
  step_losses None n h e = none-lost (same_losses e)
  step_losses (Some (sending s t)) zero h e = none-lost (ap (λ (r : Plain). r.summary.consecutive_losses) e ∙ sent_losses s t (ltb 0 p.timeout))
  step_losses (Some (sending s t)) (suc n) h e = none-lost (same_losses e)
  step_losses (Some (replying s)) zero h e = absurd (h refl)
  step_losses (Some (replying s)) (suc n) h e = none-lost (same_losses e)
  step_losses (Some (advancing now)) zero h e =
      ap (λ (r : Plain). r.summary.consecutive_losses) e ∙ (advances threshold positive p k now).losses
      ∙ ap (saturated p.summary.consecutive_losses) (sym (advance-pops now) ∙ ap (λ (r : Plain). length p.probes - length r.probes) (sym e))
  step_losses (Some (advancing now)) (suc n) h e =
      none-lost (same_losses e) ∙ ap (saturated p.summary.consecutive_losses) (nothing (length p.probes) ∙ ap (λ (r : Plain). length p.probes - length r.probes) (sym e))
    where
      nothing : (l : ℕ) → 0 ≡ l - l
      nothing l = omega arith
  step_losses (Some idling) zero h e = absurd (h refl)
  step_losses (Some idling) (suc n) h e = none-lost (same_losses e)

-- ---- all calls

module _ {C X : Type 0} (on : Monitored C X) (Fits : C → Type 0) (Stands : X → Plain → Type 0) (m : Models on Fits Stands) (threshold : ℕ) (positive : 0 < threshold) where
  abbrev Reached : X → Type 0
  Reached x = (p : Plain) × Stands x p × Keeps threshold p

  reach : (x : X) → Reached x → (past : List C) → All Fits past → Reached (played on x past)
  unfolding played All
  reach x r [] w = r
  reach x r (c ∷ cs) w =
      let y = played on x cs in
      let s = reach x r cs w.1 in
      let t = m.steps y s.0 s.1 c w.0 in
      (t.0, t.1, step_keeps threshold positive s.0 s.2 t.0 (on.drives y c) (on.number y c) t.2)

  reached_sound : (x : X) → Reached x → Sound threshold (on.seen x)
  reached_sound x r = subst (λ (s : Seen). Sound threshold s) (sym (m.shows x r.0 r.1)) (sound threshold r.0 r.2)

  module _ (fits-u32 : threshold ≤ most_losses) where
    -- ---- "one served advance ends in Failed"

    advanced : (p q : Plain) → Keeps threshold p → (now : ℕ) → q ≡ advance p now → threshold ≤ length p.probes → AllDue now p.probes → q.summary.state ≡ Failed
    advanced p q k now e many d =
        let a = advances threshold positive p k now in
        let enough : threshold ≤ p.summary.consecutive_losses + due now p.probes = omega (arith, many, all_due now p.probes d) in
        ap (λ (r : Plain). r.summary.state) e
        ∙ fails_from threshold (advance p now) a.keeps (omega (arith, a.losses, reaches p.summary.consecutive_losses (due now p.probes) threshold fits-u32 enough))

    stepped : (d : Option Call) (n : ℕ) (p q : Plain) → Steps d n p q → (now : ℕ) → d ≡ Some (advancing now) → n ≡ 0 → q ≡ advance p now
    unfolding does
    stepped d n p q s now ed en = subst (λ (x : Option Call). Steps x 0 p q) ed (subst (λ (x : ℕ). Steps d x p q) en s)

    fails_at-once : (x : X) → Reached x → (c : C) → Fits c → (now : ℕ) → on.drives x c ≡ Some (advancing now) → on.number x c ≡ 0
        → threshold ≤ length (on.seen x).queued → AllDue now (on.seen x).queued → Fails (on.seen (on.after x c))
    fails_at-once x r c w now ed en many d =
        let s = m.steps x r.0 r.1 c w in
        let e : (on.seen x).queued ≡ r.0.probes = ap (λ (v : Seen). v.queued) (m.shows x r.0 r.1) in
        ap (λ (v : Seen). v.summary.state) (m.shows (on.after x c) s.0 s.1)
        ∙ advanced r.0 s.0 r.2 now (stepped (on.drives x c) (on.number x c) r.0 s.0 s.2 now ed en)
        (omega (arith, many, ap length e)) (subst (λ (probes : List Sent). AllDue now probes) e d)

    -- ---- "Failed comes with the advance that pops the threshold-th probe"

    module _ (x : X) (r : Reached x) where
      abbrev before : ℕ
      before = r.0.summary.consecutive_losses

      -- the losses since are the pops since
      abbrev Since : List C → Type 0
      Since since = (q : Plain) × Stands (played on x since) q × Keeps threshold q × (q.summary.consecutive_losses ≡ saturated before (popped on x since))

      losses_are_pops : (since : List C) → All Fits since → AllQuiet on x since → Since since
      unfolding played All popped AllQuiet
      losses_are_pops [] w h = (r.0, r.1, r.2, sym (saturated-none before r.2.summary.few))
      losses_are_pops (c ∷ cs) w h =
          let y = played on x cs in
          let s = losses_are_pops cs w.1 h.1 in
          let t = m.steps y s.0 s.1 c w.0 in
          let d = on.drives y c in
          let e : pops d (seen_plain s.0) (seen_plain t.0) ≡ pops d (on.seen y) (on.seen (on.after y c)) =
          sym (ap (λ (v : Seen). pops d v (on.seen (on.after y c))) (m.shows y s.0 s.1) ∙ ap (pops d (seen_plain s.0)) (m.shows (on.after y c) t.0 t.1)) in (
            t.0,
            t.1,
            step_keeps threshold positive s.0 s.2 t.0 d (on.number y c) t.2,
            step_losses threshold positive s.0 s.2 t.0 d (on.number y c) h.0 t.2
                ∙ ap (λ (l : ℕ). saturated l (pops d (seen_plain s.0) (seen_plain t.0))) s.3
                ∙ saturated_twice before (popped on x cs) (pops d (seen_plain s.0) (seen_plain t.0))
                ∙ ap (λ (n : ℕ). saturated before (popped on x cs + n)) e,
          )

      state_since : (since : List C) (s : Since since) → (on.seen (played on x since)).summary.state ≡ s.0.summary.state
      state_since since s = ap (λ (v : Seen). v.summary.state) (m.shows (played on x since) s.0 s.1)

      comes_with : before ≡ 0 → (since : List C) → All Fits since → AllQuiet on x since → ComesWith on threshold x since
      comes_with unlost since w h =
          let s = losses_are_pops since w h in
          record {
            no_earlier = λ few f. omega (
              arith,
              at_threshold threshold s.0 s.2 (sym (state_since since s) ∙ f),
              s.3,
              short before (popped on x since) threshold (omega (arith, unlost, few)),
            );
            comes = λ many. state_since since s ∙ fails_from threshold s.0 s.2 (omega (
              arith,
              s.3,
              reaches before (popped on x since) threshold fits-u32 (omega (arith, many)),
            ));
          }

      stays_failed : Fails (on.seen x) → (since : List C) → All Fits since → AllQuiet on x since → Fails (on.seen (played on x since))
      stays_failed f since w h =
          let s = losses_are_pops since w h in
          state_since since s ∙ fails_from threshold s.0 s.2 (omega (
            arith,
            s.3,
            saturated_more before (popped on x since) r.2.summary.few,
            at_threshold threshold r.0 r.2 (sym (ap (λ (v : Seen). v.summary.state) (m.shows x r.0 r.1)) ∙ f),
          ))

    -- THE STATEMENT
    pub holds : (fresh : X) (p : Plain) → Stands fresh p → Keeps threshold p → InTime on Fits threshold fresh
    holds fresh p s k = record {
      sound = λ past w. reached_sound (played on fresh past) (reach fresh (p, s, k) past w);
      at_once = λ past w. fails_at-once (played on fresh past) (reach fresh (p, s, k) past w);
      in_time = λ past w None. comes_with (played on fresh past) (reach fresh (p, s, k) past w) (losses_seen (played on fresh past) (reach fresh (p, s, k) past w) None);
      stays = λ past w. stays_failed (played on fresh past) (reach fresh (p, s, k) past w);
    }
      where
        losses_seen : (x : X) (r : Reached x) → (on.seen x).summary.consecutive_losses ≡ 0 → r.0.summary.consecutive_losses ≡ 0
        losses_seen x r e = sym (ap (λ (v : Seen). v.summary.consecutive_losses) (m.shows x r.0 r.1)) ∙ e
