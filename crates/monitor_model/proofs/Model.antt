-- The monitor with its room is the plain model: for every sequence of calls from fresh, refused ones included, the numbers of all answers are equal,
-- and so are the summary, the queued probes and the set of marked sequences that stand after them. The room may have held anything.
-- Assumes nothing.
use mathlib.Core.Path.{◌≡◌, refl, sym, ap, subst, ◌∙◌}
use mathlib.Core.Bool.{false}
use mathlib.Core.List.{List, [], ◌∷◌}
use Prim.Native.Nat.{ℕ, zero-le, ◌-◌}
use native.Mathlib.Omega.{arith}
use lib.ListN.{length}
use Rattle.limits.specs.Limits.{capacity}
use Rattle.probe_queue.specs.declared.QueuedProbe.{QueuedProbe}
use Rattle.monitor.specs.Operations.{MonitorStand, fresh}
use Rattle.monitor.specs.Answers.{deadline_of}
use Rattle.monitor_model.specs.Plain.{Marks, Plain, new, deadline}
use Rattle.monitor_model.specs.Playing.{Call, play_plain, play_ring, plain_numbers, ring_numbers, plain_after, ring_after, Shows}
use Rattle.monitor_model.proofs.Rising.{rises-drop}
use Rattle.monitor_model.proofs.Standing.{seen, Kept, Next}
use Rattle.monitor_model.proofs.Following.{same-deadline, agrees}

-- a fresh monitor with any room of its size
pub begins : (threshold timeout : ℕ) (room : List QueuedProbe) → length room ≡ capacity → Kept (record { monitor = fresh threshold timeout; room = room }) (λ s. false)
begins threshold timeout room long = record { held = (omega arith, zero-le); long = long; few = omega arith; received = λ s. refl; rising = rises-drop (0 - 0) [] tt; last = tt }

abbrev Follows : List Call → MonitorStand → Plain → Type 0
Follows cs x p = (ring_numbers cs x ≡ plain_numbers cs p) × Next (ring_after cs x) (plain_after cs p)

follows_kept : (cs : List Call) (x : MonitorStand) (marks : Marks) → Kept x marks → Follows cs x (seen x marks)
unfolding ring_numbers plain_numbers ring_after plain_after
follows_kept [] x marks kept = (refl, (marks, (refl, kept)))
follows_kept (c ∷ cs) x marks kept =
    let a = agrees x marks kept c in
    let y : MonitorStand = (play_ring c x).stand in
    let q : Plain = (play_plain c (seen x marks)).plain in
    let f : Follows cs y q = subst (λ (r : Plain). Follows cs y r) (sym a.1.1.0) (follows_kept cs y a.1.0 a.1.1.1) in
    (ap (λ (n : ℕ). n ∷ ring_numbers cs y) a.0 ∙ ap (λ (ns : List ℕ). (play_plain c (seen x marks)).number ∷ ns) f.0, f.1)

shows-next : (x : MonitorStand) (p : Plain) → Next x p → Shows x p
shows-next x p n =
    record {
      summary = sym (ap (λ (r : Plain). r.summary) n.1.0);
      timeout = sym (ap (λ (r : Plain). r.timeout) n.1.0);
      transmitting = sym (ap (λ (r : Plain). r.transmitting) n.1.0);
      probes = sym (ap (λ (r : Plain). r.probes) n.1.0);
      received = λ s. n.1.1.received s ∙ sym (ap (λ (r : Plain). r.received s) n.1.0);
    }

-- the front deadline is the plain model's too
deadline-next : (x : MonitorStand) (p : Plain) → Next x p → deadline_of x.monitor x.room ≡ deadline p.probes
deadline-next x p n = same-deadline x n.0 n.1.1 ∙ ap (λ (r : Plain). deadline r.probes) (sym n.1.0)

pub deadline_follows : (threshold timeout : ℕ) (room : List QueuedProbe) (calls : List Call) → length room ≡ capacity
    → deadline_of (ring_after calls (record { monitor = fresh threshold timeout; room = room })).monitor (ring_after calls (record { monitor = fresh threshold timeout; room = room })).room ≡ deadline (plain_after calls (new threshold timeout)).probes
deadline_follows threshold timeout room calls long =
    let x : MonitorStand = record { monitor = fresh threshold timeout; room = room } in
    deadline-next (ring_after calls x) (plain_after calls (new threshold timeout)) (follows_kept calls x (λ s. false) (begins threshold timeout room long)).1

-- THE THEOREM
pub follows : (threshold timeout : ℕ) (room : List QueuedProbe) (calls : List Call) → length room ≡ capacity
    → (ring_numbers calls (record { monitor = fresh threshold timeout; room = room }) ≡ plain_numbers calls (new threshold timeout))
    × Shows (ring_after calls (record { monitor = fresh threshold timeout; room = room })) (plain_after calls (new threshold timeout))
follows threshold timeout room calls long =
    let x : MonitorStand = record { monitor = fresh threshold timeout; room = room } in
    let f : Follows calls x (seen x (λ s. false)) = follows_kept calls x (λ s. false) (begins threshold timeout room long) in
    (f.0, shows-next (ring_after calls x) (plain_after calls (new threshold timeout)) f.1)
