-- `sent`: what is stored at the place that the steps worked out is what `sent_if` leaves.
-- Assumes nothing.
use mathlib.Core.Path.{◌≡◌, refl, sym, ap, ◌∙◌}
use mathlib.Core.Bool.{Bool, true, false, ◌&&◌}
use mathlib.Core.List.{List, [], ◌∷◌}
use Prim.Native.Nat.{ℕ, zero, suc, ◌+◌, ◌≤◌}
use native.Mathlib.Nat.{le_refl, not-suc-le-zero, le_of_suc-le-suc}
use lib.ListN.{length, set}
use lib.Dec.{ltb}
use Rattle.probe_queue.specs.declared.QueuedProbe.{QueuedProbe}
use Rattle.probe_queue.specs.Queue.{place}
use Rattle.monitor.specs.declared.Monitor.{Monitor}
use Rattle.monitor.specs.Refusals.{served, refusal_of_sent, passing}
use Rattle.monitor.specs.Operations.{MonitorStand, Leaves, queues, starts, sent_on, unchanged, sent_if}
use Rattle.monitor.specs.Parts.{back_of, queued_probe_of, queued_by}
use Rattle.monitor.proofs.Chosen.{chosen, passed, and_left, and_none}
use Rattle.monitor.proofs.Served.{serves_sent-none, served_zero}

-- what is left, by another description of it
pub leave : (X Y : MonitorStand) (r : Monitor) (zs : List QueuedProbe) → X ≡ Y → r ≡ Y.monitor → zs ≡ Y.room → Leaves X r zs
leave X Y r zs e a b = (a ∙ sym (ap (λ (z : MonitorStand). z.monitor) e), b ∙ sym (ap (λ (z : MonitorStand). z.room) e))

set_past : (xs : List QueuedProbe) (n : ℕ) (x : QueuedProbe) → length xs ≤ n → set xs n x ≡ xs
set_past [] n x l = refl
set_past (y ∷ xs) zero x l = absurd (not-suc-le-zero l)
set_past (y ∷ xs) (suc n) x l = ap (λ (zs : List QueuedProbe). y ∷ zs) (set_past xs n x (le_of_suc-le-suc l))

abbrev marked : ℕ → ℕ → QueuedProbe
marked sequence deadline = record { sequence = sequence; deadline = deadline; mark = 1 }

module _ (go : Bool) (m : Monitor) (ys : List QueuedProbe) (s t : ℕ) where
  abbrev S : Bool
  S = served go (refusal_of_sent m (length ys) t)

  abbrev Q : Bool
  Q = ltb 0 m.timeout

  abbrev started : MonitorStand
  started = record { monitor = starts m; room = ys }

  module _ (at : ℕ) (p : QueuedProbe) (zs : List QueuedProbe) (r : Monitor) (ea : at ≡ back_of go m (length ys) t) (ep : p ≡ queued_probe_of m s t) (ez : zs ≡ set ys at p) (er : r ≡ queued_by go m (length ys) s t) where
    nothing_stored : at ≡ length ys → zs ≡ ys
    nothing_stored e = ez ∙ ap (λ (n : ℕ). set ys n p) e ∙ set_past ys (length ys) p (le_refl (length ys))

    stored : S ≡ true → Q ≡ true → Leaves (sent_if go m ys s t) r zs
    unfolding sent_if sent_on back_of queued_probe_of queued_by
    stored sa tb =
        leave (sent_if go m ys s t) (queues m ys s t) r zs
        (sym (chosen S (sent_on m ys s t) (unchanged m ys) sa) ∙ sym (chosen Q (queues m ys s t) started tb))
        (er ∙ sym (chosen S _ _ sa) ∙ sym (chosen Q _ _ tb))
        (ez ∙ ap (λ (n : ℕ). set ys n p) (ea ∙ sym (chosen (S && Q) (place m.ring m.ring.len) (length ys) (and_left S Q sa ∙ tb)))
        ∙ ap (λ (d : QueuedProbe). set ys (place m.ring m.ring.len) d)
        (ep ∙ ap (λ (d : ℕ). marked s d) (sym (passed (passing m t) 0 (t + m.timeout) (serves_sent-none m (length ys) t (served_zero go _ sa)).1.0))))

    unqueued : S ≡ true → Q ≡ false → Leaves (sent_if go m ys s t) r zs
    unfolding sent_if sent_on back_of queued_by
    unqueued sa tb =
        leave (sent_if go m ys s t) started r zs
        (sym (chosen S (sent_on m ys s t) (unchanged m ys) sa) ∙ sym (passed Q (queues m ys s t) started tb))
        (er ∙ sym (chosen S _ _ sa) ∙ sym (passed Q _ _ tb))
        (nothing_stored (ea ∙ sym (passed (S && Q) (place m.ring m.ring.len) (length ys) (and_left S Q sa ∙ tb))))

    unserved : S ≡ false → Leaves (sent_if go m ys s t) r zs
    unfolding sent_if back_of queued_by
    unserved sa =
        leave (sent_if go m ys s t) (unchanged m ys) r zs
        (sym (passed S (sent_on m ys s t) (unchanged m ys) sa))
        (er ∙ sym (passed S _ _ sa))
        (nothing_stored (ea ∙ sym (passed (S && Q) (place m.ring m.ring.len) (length ys) (and_none S Q sa))))

    by_cases : (a b : Bool) → S ≡ a → Q ≡ b → Leaves (sent_if go m ys s t) r zs
    by_cases true true sa tb = stored sa tb
    by_cases true false sa tb = unqueued sa tb
    by_cases false b sa tb = unserved sa

    pub stores : Leaves (sent_if go m ys s t) r zs
    stores = by_cases S Q refl refl
