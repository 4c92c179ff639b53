-- What the statement says of one call: Failed comes with a call exactly if it is the advance that pops the threshold-th probe.
-- Assumes nothing.
use Rattle.std.specs.Prelude.{Option, None, Some}
use mathlib.Core.Path.{◌≡◌, refl}
use mathlib.Core.Bool.{Bool, true, false}
use mathlib.Core.List.{List, ◌∷◌}
use mathlib.Core.Logic.{◌↔◌}
use Prim.Native.Nat.{ℕ, ◌+◌, ◌≤◌, ◌<◌}
use native.Mathlib.Omega.{arith}
use lib.Dec.{leb}
use borrow.Author.Tests.{leb-true, leb-false}
use Rattle.monitor_model.specs.Playing.{Call, sending, replying, advancing, idling}
use Rattle.monitor_in_time.specs.Calls.{Seen, Monitored, played, All}
use Rattle.monitor_in_time.specs.InTime.{Fails, pops, popped, AllQuiet, PopsTheThreshold, ComesWith, InTime}

-- only an advance pops
advance-pops : (d : Option Call) (before after : Seen) → 0 < pops d before after → (now : ℕ) × (d ≡ Some (advancing now))
advance-pops None before after h = absurd (omega (arith, h))
advance-pops (Some (sending s t)) before after h = absurd (omega (arith, h))
advance-pops (Some (replying s)) before after h = absurd (omega (arith, h))
advance-pops (Some (advancing now)) before after h = (now, refl)
advance-pops (Some idling) before after h = absurd (omega (arith, h))

module _ {C X : Type 0} (on : Monitored C X) (Fits : C → Type 0) (threshold : ℕ) (fresh : X) (t : InTime on Fits threshold fresh) where
  module _ (past : List C) (w : All Fits past) where
    abbrev x : X
    x = played on fresh past

    -- WITH LOSS COUNT 0 IT ISN'T FAILED, so that the statement need not ask for it
    pub no_losses_not_failed : 0 < threshold → (on.seen x).summary.consecutive_losses ≡ 0 → Fails (on.seen x) → ⊥
    no_losses_not_failed positive e f = omega (arith, (t.sound past w).failed_is_not_below f, positive, e)

    -- FAILED COMES WITH THE CALL c EXACTLY IF IT IS THE ADVANCE THAT POPS THE THRESHOLD-TH PROBE
    pub comes_exactly : (on.seen x).summary.consecutive_losses ≡ 0 → (c : C) (since : List C) → All Fits (c ∷ since) → AllQuiet on x (c ∷ since)
        → ((Fails (on.seen (played on x since)) → ⊥) × Fails (on.seen (played on x (c ∷ since)))) ↔ PopsTheThreshold on threshold x since c
    unfolding All AllQuiet popped
    comes_exactly e c since v h = (
      λ b.
          let few : popped on x since < threshold = fewer b.0 (leb threshold (popped on x since)) refl in
          let many : threshold ≤ popped on x since + more = enough b.1 (leb threshold (popped on x since + more)) refl in
          (advance-pops (on.drives (played on x since) c) (on.seen (played on x since)) (on.seen (on.after (played on x since) c)) (pops_some (popped on x since) more few many), few, many),
      λ p. (then.no_earlier p.1, with_c.comes p.2),
    )
      where
        pops_some : (n k : ℕ) → n < threshold → threshold ≤ n + k → 0 < k
        pops_some n k few many = omega (arith, few, many)

        more : ℕ
        more = pops (on.drives (played on x since) c) (on.seen (played on x since)) (on.seen (on.after (played on x since) c))

        then : ComesWith on threshold x since
        then = t.in_time past w e since v.1 h.1

        with_c : ComesWith on threshold x (c ∷ since)
        with_c = t.in_time past w e (c ∷ since) v h

        fewer : (Fails (on.seen (played on x since)) → ⊥) → (b : Bool) → leb threshold (popped on x since) ≡ b → popped on x since < threshold
        fewer f true i = absurd (f (then.comes (leb-true threshold (popped on x since) i)))
        fewer f false i = leb-false threshold (popped on x since) i

        enough : Fails (on.seen (played on x (c ∷ since))) → (b : Bool) → leb threshold (popped on x since + more) ≡ b → threshold ≤ popped on x since + more
        enough f true i = leb-true threshold (popped on x since + more) i
        enough f false i = absurd (with_c.no_earlier (leb-false threshold (popped on x since + more) i) f)
