-- `advance`: the ring that is looked at lies in the room, and what is popped is what `advance_if` leaves.
-- Assumes nothing.
use mathlib.Core.Path.{◌≡◌, refl, sym, ap, subst, ◌∙◌}
use mathlib.Core.Bool.{Bool, true, false}
use mathlib.Core.List.{List, [], ◌∷◌}
use Prim.Native.Nat.{ℕ, zero, suc, ◌+◌, ◌≤◌, zero-le, suc-le-suc}
use native.Mathlib.Nat.{le_refl, le_trans, mod-lt}
use native.Mathlib.Omega.{arith}
use lib.ListN.{length}
use Rattle.limits.specs.Limits.{capacity}
use Rattle.probe_queue.specs.declared.QueuedProbe.{QueuedProbe}
use Rattle.probe_queue.specs.declared.QueueRing.{QueueRing}
use Rattle.probe_queue.specs.declared.Rule.TheVariants.{Due}
use Rattle.probe_queue.specs.Queue.{choose, Held, tabulate, queued, leading, passes, after, popped}
use Rattle.monitor.specs.declared.Monitor.{Monitor}
use Rattle.monitor.specs.declared.Summary.{Summary}
use Rattle.monitor.specs.Refusals.{served, refusal_of}
use Rattle.monitor.specs.States.{loses}
use Rattle.monitor.specs.Operations.{MonitorStand, Leaves, ascending, repeated, standing, pops, due, advance_on, unchanged, advance_if}
use Rattle.monitor.specs.Parts.{ring_if, settled}
use Rattle.monitor.proofs.Chosen.{chosen, passed}
use Rattle.monitor.proofs.Served.{serves-none, served_zero, placed}
use Rattle.monitor.proofs.Storing.{leave}

tabulate-length : {X : Type 0} (n : ℕ) (f : ℕ → X) → length (tabulate n f) ≡ n
tabulate-length zero f = refl
tabulate-length (suc n) f = ap suc (tabulate-length n (λ i. f (suc i)))

leading_step : (t : Bool) (n k : ℕ) → n ≤ k → choose t (suc n) 0 ≤ suc k
leading_step true n k l = suc-le-suc l
leading_step false n k l = zero-le

leading_le : {X : Type 0} (test : X → Bool) (xs : List X) → leading test xs ≤ length xs
leading_le test [] = zero-le
leading_le test (x ∷ xs) = leading_step (test x) (leading test xs) (length xs) (leading_le test xs)

-- no more are popped than are queued
pub below : (test : QueuedProbe → Bool) (ys : List QueuedProbe) (ring : QueueRing) (n : ℕ) → n ≡ leading test (queued ys ring) → n ≤ ring.len
below test ys ring n e = subst (λ (k : ℕ). k ≤ ring.len) (sym e) (subst (λ (k : ℕ). leading test (queued ys ring) ≤ k) (tabulate-length ring.len _) (leading_le test (queued ys ring)))

-- the monitor's ring where the call is served, or an empty one, lies in the room
pub lies : (m : Monitor) (n : ℕ) (serves : Bool) (ring : QueueRing) → (serves ≡ true → refusal_of m n ≡ 0) → ring ≡ ring_if serves m → Held ring
unfolding ring_if
lies m n true ring z er = subst Held (sym er) (placed m n (serves-none m n (z refl)).0).1
lies m n false ring z er = subst Held (sym er) (omega arith, omega arith)

pub held : (go : Bool) (m : Monitor) (n : ℕ) (serves : Bool) (ring : QueueRing) → serves ≡ served go (refusal_of m n) → ring ≡ ring_if serves m → Held ring
held go m n serves ring es er = lies m n serves ring (λ e. served_zero go (refusal_of m n) (sym es ∙ e)) er

choose_zero_le : (t : Bool) (n : ℕ) → choose t 0 n ≤ n
choose_zero_le true n = zero-le
choose_zero_le false n = le_refl n

-- what is left of a ring that lies in the room lies in it
pub remains : (m : Monitor) (ring : QueueRing) (count : ℕ) (rest : QueueRing) (again : ℕ) → Held ring → count ≤ ring.len → rest ≡ after ring count → again ≡ repeated m count → Held ring × (Held rest × (again ≤ capacity))
remains m ring count rest again h l et ea =
    (h, (subst Held (sym et) (mod-lt (ring.head + count) (omega arith), omega (arith, h.1)), subst (λ (k : ℕ). k ≤ capacity) (sym ea) (le_trans (choose_zero_le (ascending m) count) (le_trans l h.1))))

pub rests : (go : Bool) (m : Monitor) (n : ℕ) (serves : Bool) (ring : QueueRing) (count : ℕ) (rest : QueueRing) (again : ℕ) → serves ≡ served go (refusal_of m n) → ring ≡ ring_if serves m → count ≤ ring.len → rest ≡ after ring count → again ≡ repeated m count
    → Held ring × (Held rest × (again ≤ capacity))
rests go m n serves ring count rest again es er l et ea = remains m ring count rest again (held go m n serves ring es er) l et ea

-- pops of the monitor's ring are those of `pops`
pub popping : (m : Monitor) (ys : List QueuedProbe) (s : Summary) (n : ℕ) (X : MonitorStand) (ring : QueueRing) (count : ℕ) (rest : QueueRing) (again : ℕ) (zs : List QueuedProbe) (r : Monitor)
    → X ≡ pops m ys n s → ring ≡ m.ring → count ≡ n → rest ≡ after ring count → again ≡ repeated m count → zs ≡ popped ys ring rest again → r ≡ standing m s rest → Leaves X r zs
popping m ys s n X ring count rest again zs r ex er ec et ea ez es =
    let el : rest ≡ after m.ring n = et ∙ ap (λ (g : QueueRing). after g count) er ∙ ap (after m.ring) ec in
    leave X (pops m ys n s) r zs ex
    (es ∙ ap (standing m s) el)
    (ez ∙ ap (λ (g : QueueRing). popped ys g rest again) er ∙ ap (λ (g : QueueRing). popped ys m.ring g again) el ∙ ap (popped ys m.ring (after m.ring n)) (ea ∙ ap (repeated m) ec))

choose-same : (t : Bool) (n : ℕ) → n ≡ 0 → choose t 0 n ≡ 0
choose-same true n e = refl
choose-same false n e = e

-- pops of an empty ring change nothing
pub idling : (m : Monitor) (ys : List QueuedProbe) (X : MonitorStand) (ring : QueueRing) (count : ℕ) (rest : QueueRing) (again : ℕ) (zs : List QueuedProbe) (r : Monitor)
    → X ≡ unchanged m ys → count ≡ 0 → again ≡ repeated m count → zs ≡ popped ys ring rest again → r ≡ m → Leaves X r zs
idling m ys X ring count rest again zs r ex ec ea ez es =
    leave X (unchanged m ys) r zs ex es (ez ∙ ap (popped ys ring rest) (ea ∙ choose-same (ascending m) count ec))

module _ (go : Bool) (m : Monitor) (ys : List QueuedProbe) (t : ℕ) where
  abbrev S : Bool
  S = served go (refusal_of m (length ys))

  abbrev after_losses : ℕ → Summary
  after_losses n = choose m.transmitting (loses n m.summary) m.summary

  pub advances : (serves : Bool) (ring : QueueRing) (count : ℕ) (rest : QueueRing) (again : ℕ) (zs : List QueuedProbe) (r : Monitor) → serves ≡ S → ring ≡ ring_if serves m → count ≡ leading (passes (Due t)) (queued ys ring)
      → rest ≡ after ring count → again ≡ repeated m count → zs ≡ popped ys ring rest again → r ≡ settled S m (after_losses count) rest → Leaves (advance_if go m ys t) r zs
  unfolding advance_if advance_on ring_if
  advances true ring count rest again zs r es er ec et ea ez en =
      let counted : count ≡ due m ys t = ec ∙ ap (λ (g : QueueRing). leading (passes (Due t)) (queued ys g)) er in
      popping m ys (after_losses (due m ys t)) (due m ys t) (advance_if go m ys t) ring count rest again zs r
      (sym (chosen S _ _ (sym es))) er counted et ea ez
      (en ∙ sym (chosen S (standing m (after_losses count) rest) m (sym es)) ∙ ap (λ (n : ℕ). standing m (after_losses n) rest) counted)
  advances false ring count rest again zs r es er ec et ea ez en =
      idling m ys (advance_if go m ys t) ring count rest again zs r
      (sym (passed S _ _ (sym es))) (ec ∙ ap (λ (g : QueueRing). leading (passes (Due t)) (queued ys g)) er) ea ez
      (en ∙ sym (passed S (standing m (after_losses count) rest) m (sym es)))
