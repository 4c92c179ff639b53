-- Of `sent` and `accept` with a monitor: the number of an answer is the first of the table over the tests of both parts; a refusal hands back its
-- number only and changes neither part. Assumes nothing.
use Rattle.std.specs.Prelude.{Result, Ok, Err}
use Rattle.ledger_steps.specs.declared.Accepted.{Accepted}
use mathlib.Core.Path.{◌≡◌, refl, sym, ap, ◌∙◌}
use mathlib.Core.Bool.{Bool, true, false, not, ◌&&◌}
use mathlib.Core.List.{List}
use Prim.Native.Nat.{ℕ, zero, suc}
use native.Mathlib.Omega.{arith}
use lib.ListN.{length}
use Rattle.call_types.specs.declared.SentProbe.{SentProbe}
use Rattle.call_types.specs.declared.Reply.{Reply}
use Rattle.probe_queue.specs.declared.QueuedProbe.{QueuedProbe}
use Rattle.probe_queue.specs.Queue.{choose}
use Rattle.monitor.specs.declared.Monitor.{Monitor}
use Rattle.monitor.specs.Refusals.{misplaced, counted, passing, crowded, refusal_of, refusal_of_sent}
use Rattle.monitor.specs.Operations.{unchanged, sent_if, reply_if}
use Rattle.replies.proofs.Tested.{both}
use Rattle.ledger_state.specs.declared.Ledger.{Ledger}
use Rattle.ledger_state.specs.Refusal.{first_refusal, sized, rings_fit, room_for_call}
use Rattle.ledger_state.proofs.Served.{served, not_refused}
use Rattle.ledger_steps.specs.Refusals as refusals
use Rattle.ledger_steps.specs.Accept.{AcceptOutcome, accept_on}
use Rattle.ledger_steps.specs.Calls as ledger
use Rattle.ledger_checks.proofs.Order.{first-of-both}
use Rattle.ledger_checks.proofs.Refused as refused
use Rattle.link_steps.specs.Steps.{was_served, was_unique}
use Rattle.ledger_watched.specs.Watched.{number, accept_number, sent_result, both_sent, sent_with, sent_by, sent_to}
use Rattle.ledger_watched.specs.Watched.{accept_result, both_accept, accept_with, accept_by, accept_to}

-- ---- the monitor's refusals are the table's

sent_lines : (a b c d : Bool) → choose a 5 (choose b 6 (choose c 4 (choose d 3 0))) ≡ first_refusal (not a) true (not b) (not c) true (not d)
sent_lines true b c d = refl
sent_lines false true c d = refl
sent_lines false false true d = refl
sent_lines false false false true = refl
sent_lines false false false false = refl

pub monitor-sent-table :
    (m : Monitor) (room time : ℕ) →
    refusal_of_sent m room time ≡ first_refusal (not (misplaced m room)) true (not (passing m time)) (not (counted m.summary)) true (not (crowded m))
unfolding refusal_of_sent
monitor-sent-table m room time = sent_lines (misplaced m room) (passing m time) (counted m.summary) (crowded m)

lines : (a c : Bool) → choose a 5 (choose c 4 0) ≡ first_refusal (not a) true true (not c) true true
lines true c = refl
lines false true = refl
lines false false = refl

pub monitor-table :
    (m : Monitor) (room : ℕ) → refusal_of m room ≡ first_refusal (not (misplaced m room)) true true (not (counted m.summary)) true true
unfolding refusal_of
monitor-table m room = lines (misplaced m room) (counted m.summary)

-- ---- the number of an answer: of several tests of both parts that fail, the first in table order

number_is : (x : Result Ledger ℕ) (m : Monitor) → number (both_sent x m) ≡ ledger.number x
number_is (Ok l) m = refl
number_is (Err n) m = refl

pub sent-number :
    (l : Ledger) (m : Monitor) (probes links : List (List ℕ)) (queue : List QueuedProbe) (s : SentProbe) →
    number (sent_to l m probes links queue s).answer
    ≡ first_refusal (sized (length probes) && sized (length links) && rings_fit l && not (misplaced m (length queue))) true (not (passing m s.packet.time))
    (room_for_call l && not (counted m.summary)) true (not (crowded m))
unfolding sent_to refusals.refusal_of_sent
sent-number l m probes links queue s =
    let other = refusal_of_sent m (length queue) s.packet.time in
    let placed = sized (length probes) && sized (length links) && rings_fit l in
    number_is (ledger.sent_to other l probes links s).answer (sent_if (was_served (ledger.sent_to other l probes links s).answer) m queue s.sequence s.packet.time).monitor
    ∙ refused.sent-number other l probes links s
    ∙ ap (refusals.earlier (first_refusal placed true true (room_for_call l) true true)) (monitor-sent-table m (length queue) s.packet.time)
    ∙ first-of-both placed true true (room_for_call l) true true (not (misplaced m (length queue))) true (not (passing m s.packet.time))
    (not (counted m.summary)) true (not (crowded m))

accept_number_is : (x : Result (Ledger × Accepted) ℕ) (m : Monitor) → accept_number (both_accept x m) ≡ ledger.accept_number x
accept_number_is (Ok (l, a)) m = refl
accept_number_is (Err n) m = refl

ledger-number-by :
    (k : ℕ) (o : AcceptOutcome) (keys slots probes links : List (List ℕ)) → ledger.accept_number (ledger.accept_by k o keys slots probes links).answer ≡ k
ledger-number-by zero o keys slots probes links = refl
ledger-number-by (suc k) o keys slots probes links = refl

-- of the ledger's part alone
ledger-accept-number :
    (other : ℕ) (l : Ledger) (keys slots probes links : List (List ℕ)) (a : Reply) →
    ledger.accept_number (ledger.accept_to other l keys slots probes links a).answer
    ≡ refusals.refusal_of_accept other l (length keys) (length slots) (length probes) (length links)
unfolding ledger.accept_to
ledger-accept-number other l keys slots probes links a =
    ledger-number-by (refusals.refusal_of_accept other l (length keys) (length slots) (length probes) (length links)) (accept_on l keys slots probes links a) keys slots probes links

pub accept-number :
    (l : Ledger) (m : Monitor) (keys slots probes links : List (List ℕ)) (queue : List QueuedProbe) (a : Reply) →
    accept_number (accept_to l m keys slots probes links queue a).answer
    ≡ first_refusal
    (sized (length keys) && sized (length slots) && sized (length probes) && sized (length links) && rings_fit l && not (misplaced m (length queue)))
    true true (room_for_call l && not (counted m.summary)) true true
unfolding accept_to refusals.refusal_of_accept
accept-number l m keys slots probes links queue a =
    let other = refusal_of m (length queue) in
    let placed = sized (length keys) && sized (length slots) && sized (length probes) && sized (length links) && rings_fit l in
    accept_number_is (ledger.accept_to other l keys slots probes links a).answer
    (reply_if (was_unique (ledger.accept_to other l keys slots probes links a).answer) m queue a.key.sender).monitor
    ∙ ledger-accept-number other l keys slots probes links a
    ∙ ap (refusals.earlier (first_refusal placed true true (room_for_call l) true true)) (monitor-table m (length queue))
    ∙ first-of-both placed true true (room_for_call l) true true (not (misplaced m (length queue))) true true (not (counted m.summary)) true true

-- ---- where the monitor refuses, the call is refused

pub sent-served-by-both :
    (l : Ledger) (m : Monitor) (probes links : List (List ℕ)) (queue : List QueuedProbe) (s : SentProbe) →
    number (sent_to l m probes links queue s).answer ≡ 0 → refusal_of_sent m (length queue) s.packet.time ≡ 0
sent-served-by-both l m probes links queue s h =
    let placed = sized (length probes) && sized (length links) && rings_fit l in
    let fits = not (misplaced m (length queue)) in
    let room = not (counted m.summary) in
    let timely = not (passing m s.packet.time) in
    let free = not (crowded m) in
    let p = served (placed && fits) true timely (room_for_call l && room) true free (sym (sent-number l m probes links queue s) ∙ h) in
    monitor-sent-table m (length queue) s.packet.time
    ∙ not_refused fits true timely room true free (record {
      placed_is = (both placed fits p.placed_is).1;
      ranged_is = refl;
      timely_is = p.timely_is;
      counted_is = (both (room_for_call l) room p.counted_is).1;
      awaiting_is = refl;
      room_is = p.room_is;
    })

pub accept-served-by-both :
    (l : Ledger) (m : Monitor) (keys slots probes links : List (List ℕ)) (queue : List QueuedProbe) (a : Reply) →
    accept_number (accept_to l m keys slots probes links queue a).answer ≡ 0 → refusal_of m (length queue) ≡ 0
accept-served-by-both l m keys slots probes links queue a h =
    let placed = sized (length keys) && sized (length slots) && sized (length probes) && sized (length links) && rings_fit l in
    let fits = not (misplaced m (length queue)) in
    let room = not (counted m.summary) in
    let p = served (placed && fits) true true (room_for_call l && room) true true (sym (accept-number l m keys slots probes links queue a) ∙ h) in
    monitor-table m (length queue)
    ∙ not_refused fits true true room true true (record {
      placed_is = (both placed fits p.placed_is).1;
      ranged_is = refl;
      timely_is = refl;
      counted_is = (both (room_for_call l) room p.counted_is).1;
      awaiting_is = refl;
      room_is = refl;
    })

-- ---- a refusal, for whichever part's sake, changes neither

stays_sent : (m : Monitor) (queue : List QueuedProbe) (sequence time : ℕ) → sent_if false m queue sequence time ≡ unchanged m queue
unfolding sent_if
stays_sent m queue sequence time = refl

refused_of : (x : Result Ledger ℕ) (m : Monitor) (n : ℕ) → both_sent x m ≡ Err n → x ≡ Err n
refused_of (Ok l) m n e = absurd (let z : ◌≡◌ {A = ℕ} 0 1 = cc in omega arith)
refused_of (Err k) m n e = ap Err (ap number e)

pub sent-refused :
    (l : Ledger) (m : Monitor) (probes links : List (List ℕ)) (queue : List QueuedProbe) (s : SentProbe) (n : ℕ) →
    (sent_to l m probes links queue s).answer ≡ Err n →
    sent_to l m probes links queue s ≡ sent_result (Err n) probes links queue
unfolding sent_to
sent-refused l m probes links queue s n e =
    let other = refusal_of_sent m (length queue) s.packet.time in
    let r = ledger.sent_to other l probes links s in
    ap (λ (x : ledger.SentResult). sent_by x m queue s)
    (refused.sent-refused other l probes links s n (refused_of r.answer (sent_if (was_served r.answer) m queue s.sequence s.packet.time).monitor n e)).1
    ∙ ap (sent_with (ledger.sent_result (Err n) probes links)) (stays_sent m queue s.sequence s.packet.time)

stays_reply : (m : Monitor) (queue : List QueuedProbe) (sender : ℕ) → reply_if false m queue sender ≡ unchanged m queue
unfolding reply_if
stays_reply m queue sender = refl

accept-refused_of : (x : Result (Ledger × Accepted) ℕ) (m : Monitor) (n : ℕ) → both_accept x m ≡ Err n → x ≡ Err n
accept-refused_of (Ok (l, a)) m n e = absurd (let z : ◌≡◌ {A = ℕ} 0 1 = cc in omega arith)
accept-refused_of (Err k) m n e = ap Err (ap accept_number e)

pub accept-refused :
    (l : Ledger) (m : Monitor) (keys slots probes links : List (List ℕ)) (queue : List QueuedProbe) (a : Reply) (n : ℕ) →
    (accept_to l m keys slots probes links queue a).answer ≡ Err n →
    accept_to l m keys slots probes links queue a ≡ accept_result (Err n) keys slots probes links queue
unfolding accept_to
accept-refused l m keys slots probes links queue a n e =
    let other = refusal_of m (length queue) in
    let r = ledger.accept_to other l keys slots probes links a in
    ap (λ (x : ledger.AcceptResult). accept_by x m queue a)
    (refused.accept-refused other l keys slots probes links a n (accept-refused_of r.answer (reply_if (was_unique r.answer) m queue a.key.sender).monitor n e)).1
    ∙ ap (accept_with (ledger.accept_result (Err n) keys slots probes links)) (stays_reply m queue a.key.sender)
