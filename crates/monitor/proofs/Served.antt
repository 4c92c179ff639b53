-- What a call that is served knows of its monitor and its room.
-- Assumes nothing.
use mathlib.Core.Path.{◌≡◌, refl, sym, ◌∙◌}
use mathlib.Core.Bool.{Bool, true, false, not, ◌||◌}
use Prim.Native.Nat.{ℕ, ◌<◌}
use native.Mathlib.Omega.{arith}
use lib.Dec.{eqb, leb, ltb}
use borrow.Author.Tests.{ltb-false, leb-false, eqb-true, not-false, lt-ltb}
use Rattle.limits.specs.Limits.{capacity, count_bound}
use Rattle.limits.specs.Refusals.{wrong_room, deadline_passes, counts_full, queue_full}
use Rattle.probe_queue.specs.Queue.{choose, Held}
use Rattle.monitor.specs.declared.Monitor.{Monitor}
use Rattle.monitor.specs.declared.Summary.{Summary}
use Rattle.monitor.specs.Refusals.{misplaced, counted, passing, crowded, refusal_of, refusal_of_sent, served}
use Rattle.monitor.proofs.Chosen.{or_neither, and_both, and_left}

-- a choice between a number and another that is 0 took the other
other : (t : Bool) (x y : ℕ) → 0 < x → choose t x y ≡ 0 → (t ≡ false) × (y ≡ 0)
other true x y l e = absurd_of (omega (arith, l, e))
  where
    absurd_of : ⊥ → (true ≡ false) × (y ≡ 0)
    absurd_of h = absurd h
other false x y l e = (refl, e)

pub serves-none : (m : Monitor) (room : ℕ) → refusal_of m room ≡ 0 → (misplaced m room ≡ false) × (counted m.summary ≡ false)
unfolding refusal_of
serves-none m room e =
    let a : (misplaced m room ≡ false) × (choose (counted m.summary) counts_full 0 ≡ 0) = other (misplaced m room) wrong_room _ (omega arith) e in
    (a.0, (other (counted m.summary) counts_full 0 (omega arith) a.1).0)

pub serves_sent-none : (m : Monitor) (room time : ℕ) → refusal_of_sent m room time ≡ 0
    → (misplaced m room ≡ false) × ((passing m time ≡ false) × ((counted m.summary ≡ false) × (crowded m ≡ false)))
unfolding refusal_of_sent
serves_sent-none m room time e =
    let a : (misplaced m room ≡ false) × (choose (passing m time) deadline_passes (choose (counted m.summary) counts_full (choose (crowded m) queue_full 0)) ≡ 0) = other (misplaced m room) wrong_room _ (omega arith) e in
    let b : (passing m time ≡ false) × (choose (counted m.summary) counts_full (choose (crowded m) queue_full 0) ≡ 0) = other (passing m time) deadline_passes _ (omega arith) a.1 in
    let d : (counted m.summary ≡ false) × (choose (crowded m) queue_full 0 ≡ 0) = other (counted m.summary) counts_full _ (omega arith) b.1 in
    (a.0, (b.0, (d.0, (other (crowded m) queue_full 0 (omega arith) d.1).0)))

-- a call that goes on is not refused
pub served_zero : (go : Bool) (refusal : ℕ) → served go refusal ≡ true → refusal ≡ 0
served_zero go refusal e = eqb-true refusal 0 (and_both go (eqb refusal 0) e).1

-- the room has its size, and the ring lies in it
pub placed : (m : Monitor) (room : ℕ) → misplaced m room ≡ false → (room ≡ capacity) × Held m.ring
placed m room e =
    let a = or_neither (not (eqb room capacity)) (leb capacity m.ring.head || ltb capacity m.ring.len) e in
    let b = or_neither (leb capacity m.ring.head) (ltb capacity m.ring.len) a.1 in
    (eqb-true room capacity (not-false (eqb room capacity) a.0), (leb-false capacity m.ring.head b.0, ltb-false capacity m.ring.len b.1))

-- the counts have room for one more
pub uncounted : (s : Summary) → counted s ≡ false → (s.active_notifications < count_bound) × ((s.failed_notifications < count_bound) × (s.idle_notifications < count_bound))
uncounted s e =
    let a = or_neither (leb count_bound s.active_notifications) (leb count_bound s.failed_notifications || leb count_bound s.idle_notifications) e in
    let b = or_neither (leb count_bound s.failed_notifications) (leb count_bound s.idle_notifications) a.1 in
    (leb-false count_bound _ a.0, (leb-false count_bound _ b.0, leb-false count_bound _ b.1))

-- the queue has room for one more
pub roomy : (m : Monitor) → 0 < m.timeout → crowded m ≡ false → m.ring.len < capacity
roomy m l e = leb-false capacity m.ring.len (sym (and_left (ltb 0 m.timeout) (leb capacity m.ring.len) (lt-ltb 0 m.timeout l)) ∙ e)
