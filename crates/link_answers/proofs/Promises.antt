-- Each call's promise in document 01's numbers and values: of the answer that the definition cited by its contract gives. Assumes nothing.
use Rattle.std.specs.Prelude.{None, Ok, Err, Some}
use mathlib.Core.Path.{◌≡◌, refl, sym, ap, ◌∙◌}
use mathlib.Core.Bool.{Bool, true, false, cond}
use mathlib.Core.List.{List, [], ◌∷◌}
use Prim.Native.Nat.{ℕ, zero, suc}
use borrow.Author.Tests.{eqb-true, eqb-false}
use lib.Dec.{eqb, ltb}
use lib.ListN.{length, get_or}
use Rattle.limits.specs.Limits.{capacity}
use Rattle.limits.specs.Refusals.{wrong_room}
use Rattle.call_types.specs.declared.SentProbe.{SentProbe}
use Rattle.call_types.specs.declared.Reply.{Reply}
use Rattle.call_types.specs.declared.ReplyObservation.{ReplyObservation}
use Rattle.probe_queue.specs.declared.QueuedProbe.{QueuedProbe}
use Rattle.probe_queue.specs.Queue.{choose, nil}
use Rattle.monitor.specs.declared.Monitor.{Monitor}
use Rattle.monitor.specs.Refusals.{misplaced, refusal_of, refusal_of_sent}
use Rattle.monitor.specs.Operations.{sent_if, reply_if, advance_if, idle_on}
use Rattle.monitor.specs.Answers as monitor
use Rattle.ledger_state.specs.declared.Ledger.{Ledger}
use Rattle.ledger_steps.specs.Refusals as refusals
use Rattle.ledger_steps.specs.Sent.{SentOutcome, sent_on}
use Rattle.ledger_steps.specs.Accept.{AcceptOutcome, accept_on}
use Rattle.ledger_steps.specs.Observe.{ObserveOutcome, observe_on}
use Rattle.ledger_steps.specs.Readers.{answered_on}
use Rattle.ledger_steps.specs.Calls.{sent_by, sent_to, accept_by, accept_to, observe_by, observe_to, answered_by, answered_to}
use Rattle.link_steps.specs.Steps.{is_unique}
use Rattle.ledger_watched.specs.Watched as watched
use Rattle.record_parts.specs.declared.Entry.{Entry}
use Rattle.log_record.specs.Records.{bad_record, good, entry_of, answer, read_of}
use Rattle.log_whole.specs.Logs.{most_bytes, too_long, bad_trailer, trailer_good, count_of, settings_of, record_at, played_by, call_at}
use Rattle.host_calls.specs.Calls.{accepted_words}
use Rattle.host_numbers.specs.Numbers.{flag_word}
use Rattle.link_answers.specs.Outcomes.{Outcome, outcome, by_number, ledger_outcome, accept_outcome, answered_outcome, watched_outcome, watched_accept_outcome, monitor_outcome, deadline_outcome, played_calls, played_number, calls_by}

-- ---- the ledger

pub sent_promise : (other : ℕ) (l : Ledger) (probes links : List (List ℕ)) (s : SentProbe) →
    ledger_outcome l (sent_to other l probes links s).answer ≡ by_number (refusals.refusal_of_sent other l (length probes) (length links)) [] (sent_on l probes links s).ledger l
unfolding sent_to
sent_promise other l probes links s = by (refusals.refusal_of_sent other l (length probes) (length links)) (sent_on l probes links s)
  where
    by : (n : ℕ) (o : SentOutcome) → ledger_outcome l (sent_by n o probes links).answer ≡ by_number n [] o.ledger l
    by zero o = refl
    by (suc n) o = refl

pub accept_promise : (other : ℕ) (l : Ledger) (keys slots probes links : List (List ℕ)) (a : Reply) →
    accept_outcome l (accept_to other l keys slots probes links a).answer
    ≡ by_number (refusals.refusal_of_accept other l (length keys) (length slots) (length probes) (length links)) (accepted_words (accept_on l keys slots probes links a).accepted) (accept_on l keys slots probes links a).ledger l
unfolding accept_to
accept_promise other l keys slots probes links a = by (refusals.refusal_of_accept other l (length keys) (length slots) (length probes) (length links)) (accept_on l keys slots probes links a)
  where
    by : (n : ℕ) (o : AcceptOutcome) → accept_outcome l (accept_by n o keys slots probes links).answer ≡ by_number n (accepted_words o.accepted) o.ledger l
    by zero o = refl
    by (suc n) o = refl

pub observe_promise : (l : Ledger) (keys slots : List (List ℕ)) (offsets : List ℕ) (links : List (List ℕ)) (o : ReplyObservation) →
    ledger_outcome l (observe_to l keys slots offsets links o).answer
    ≡ by_number (refusals.refusal_of_observe l keys (length slots) (length offsets) (length links) o) [] (observe_on l keys slots offsets links o).ledger l
unfolding observe_to
observe_promise l keys slots offsets links o = by (refusals.refusal_of_observe l keys (length slots) (length offsets) (length links) o) (observe_on l keys slots offsets links o)
  where
    by : (n : ℕ) (x : ObserveOutcome) → ledger_outcome l (observe_by n x slots offsets links).answer ≡ by_number n [] x.ledger l
    by zero x = refl
    by (suc n) x = refl

pub answered_promise : (l : Ledger) (probes links : List (List ℕ)) (s : ℕ) →
    answered_outcome l (answered_to l probes links s) ≡ by_number (refusals.refusal_of_answered l (length probes) (length links)) (flag_word (answered_on l probes links s) ∷ []) l l
unfolding answered_to
answered_promise l probes links s = by (refusals.refusal_of_answered l (length probes) (length links)) (answered_on l probes links s)
  where
    by : (n : ℕ) (b : Bool) → answered_outcome l (answered_by n b) ≡ by_number n (flag_word b ∷ []) l l
    by zero b = refl
    by (suc n) b = refl

-- ---- the monitor

-- what `answered` says of a number
monitor_by : (n : ℕ) (next before : Monitor) (b : Bool) → eqb n 0 ≡ b → monitor_outcome before (choose b (Ok next) (Err n)) ≡ by_number n [] next before
monitor_by n next before true e = sym (ap (λ (k : ℕ). by_number k [] next before) (eqb-true n 0 e))
monitor_by zero next before false e = absurd (eqb-false 0 0 e refl)
monitor_by (suc n) next before false e = refl

pub monitor_sent_promise : (m : Monitor) (room : List QueuedProbe) (s t : ℕ) →
    monitor_outcome m (monitor.sent_to m room s t).answer ≡ by_number (refusal_of_sent m (length room) t) [] (sent_if true m room s t).monitor m
unfolding monitor.sent_to monitor.answered
monitor_sent_promise m room s t = monitor_by (refusal_of_sent m (length room) t) (sent_if true m room s t).monitor m (eqb (refusal_of_sent m (length room) t) 0) refl

pub monitor_reply_promise : (m : Monitor) (room : List QueuedProbe) (s : ℕ) →
    monitor_outcome m (monitor.reply_to m room s).answer ≡ by_number (refusal_of m (length room)) [] (reply_if true m room s).monitor m
unfolding monitor.reply_to monitor.answered
monitor_reply_promise m room s = monitor_by (refusal_of m (length room)) (reply_if true m room s).monitor m (eqb (refusal_of m (length room)) 0) refl

pub monitor_advance_promise : (m : Monitor) (room : List QueuedProbe) (t : ℕ) →
    monitor_outcome m (monitor.advance_to m room t).answer ≡ by_number (refusal_of m (length room)) [] (advance_if true m room t).monitor m
unfolding monitor.advance_to monitor.answered
monitor_advance_promise m room t = monitor_by (refusal_of m (length room)) (advance_if true m room t).monitor m (eqb (refusal_of m (length room)) 0) refl

pub monitor_idle_promise : (m : Monitor) → monitor_outcome m (monitor.idle_to m) ≡ by_number (refusal_of m capacity) [] (idle_on m) m
unfolding monitor.idle_to
monitor_idle_promise m = monitor_by (refusal_of m capacity) (idle_on m) m (eqb (refusal_of m capacity) 0) refl

-- 5 where the ring or the room is out of place; else no value where nothing is queued, and the front probe's deadline
pub monitor_deadline_promise : (m : Monitor) (room : List QueuedProbe) →
    deadline_outcome m (monitor.deadline_of m room)
    ≡ by_number (choose (misplaced m (length room)) wrong_room 0) (choose (eqb m.ring.len 0) [] ((get_or room m.ring.head nil).deadline ∷ [])) m m
unfolding monitor.deadline_of
monitor_deadline_promise m room = by (misplaced m (length room)) (eqb m.ring.len 0) (get_or room m.ring.head nil).deadline
  where
    by : (o e : Bool) (t : ℕ) → deadline_outcome m (choose o (Err wrong_room) (choose e (Ok None) (Ok (Some t)))) ≡ by_number (choose o wrong_room 0) (choose e [] (t ∷ [])) m m
    by true e t = refl
    by false true t = refl
    by false false t = refl

-- ---- the ledger with a monitor: the number is the ledger's with the monitor's beside it, and both states go on or none

pub watched-sent_promise : (l : Ledger) (m : Monitor) (probes links : List (List ℕ)) (queue : List QueuedProbe) (s : SentProbe) →
    watched_outcome l m (watched.sent_to l m probes links queue s).answer
    ≡ by_number (refusals.refusal_of_sent (refusal_of_sent m (length queue) s.packet.time) l (length probes) (length links)) []
    ((sent_on l probes links s).ledger, (sent_if true m queue s.sequence s.packet.time).monitor) (l, m)
unfolding watched.sent_to sent_to
watched-sent_promise l m probes links queue s = by (refusals.refusal_of_sent (refusal_of_sent m (length queue) s.packet.time) l (length probes) (length links)) (sent_on l probes links s)
  where
    by : (n : ℕ) (o : SentOutcome) → watched_outcome l m (watched.sent_by (sent_by n o probes links) m queue s).answer
        ≡ by_number n [] (o.ledger, (sent_if true m queue s.sequence s.packet.time).monitor) (l, m)
    by zero o = refl
    by (suc n) o = refl

pub watched-accept_promise : (l : Ledger) (m : Monitor) (keys slots probes links : List (List ℕ)) (queue : List QueuedProbe) (a : Reply) →
    let o = accept_on l keys slots probes links a in
    watched_accept_outcome l m (watched.accept_to l m keys slots probes links queue a).answer
    ≡ by_number (refusals.refusal_of_accept (refusal_of m (length queue)) l (length keys) (length slots) (length probes) (length links)) (accepted_words o.accepted)
    (o.ledger, (reply_if (is_unique o.accepted) m queue a.key.sender).monitor) (l, m)
unfolding watched.accept_to accept_to
watched-accept_promise l m keys slots probes links queue a =
    by (refusals.refusal_of_accept (refusal_of m (length queue)) l (length keys) (length slots) (length probes) (length links)) (accept_on l keys slots probes links a)
  where
    by : (n : ℕ) (o : AcceptOutcome) → watched_accept_outcome l m (watched.accept_by (accept_by n o keys slots probes links) m queue a).answer
        ≡ by_number n (accepted_words o.accepted) (o.ledger, (reply_if (is_unique o.accepted) m queue a.key.sender).monitor) (l, m)
    by zero o = refl
    by (suc n) o = refl

-- ---- a log's record

pub call_at_promise : (log : List ℕ) (i : ℕ) → played_calls (call_at log i) ≡ calls_by (played_number log i) (entry_of (record_at log (settings_of log).start i))
unfolding call_at read_of
call_at_promise log i =
    by (ltb most_bytes (length log)) (trailer_good log) (ltb i (count_of log)) (eqb (length (record_at log (settings_of log).start i)) 96) (good (record_at log (settings_of log).start i)) (entry_of (record_at log (settings_of log).start i))
  where
    by : (long kept there sized whole : Bool) (e : Entry) → played_calls (cond long None (cond kept (cond there (played_by (answer sized whole e)) None) None))
        ≡ calls_by (cond long too_long (cond kept (cond there (cond sized (cond whole 0 bad_record) wrong_room) bad_record) bad_trailer)) e
    by true kept there sized whole e = refl
    by false false there sized whole e = refl
    by false true false sized whole e = refl
    by false true true true true e = refl
    by false true true true false e = refl
    by false true true false whole e = refl
