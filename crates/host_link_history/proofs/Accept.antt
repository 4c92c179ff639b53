-- `accept` of a host is the library's on the link that the words say, with a monitor and without.
-- Assumes nothing.
use Rattle.ledger_state.specs.declared.Ledger.{Ledger}
use Rattle.ledger_steps.specs.declared.Accepted.{Accepted}
use Rattle.std.specs.Prelude.{Some, Result}
use mathlib.Core.Path.{◌≡◌, refl, ◌∙◌}
use mathlib.Core.Bool.{Bool}
use mathlib.Core.List.{List, []}
use Prim.Native.Nat.{ℕ, zero, suc, ◌<◌, ◌^◌}
use lib.ListN.{length}
use Rattle.call_types.specs.declared.Reply.{Reply}
use Rattle.probe_queue.specs.declared.QueuedProbe.{QueuedProbe}
use Rattle.monitor.specs.declared.Monitor.{Monitor}
use Rattle.monitor.specs.Refusals as monitor
use Rattle.monitor.specs.Operations.{reply_if}
use Rattle.ledger_steps.specs.Rooms.{Rooms}
use Rattle.ledger_steps.specs.Refusals.{refusal_of_accept}
use Rattle.ledger_steps.specs.Accept.{accept_on}
use Rattle.ledger_steps.specs.Calls.{accept_number, accept_by, accept_to}
use Rattle.ledger_watched.specs.Watched as watched
use Rattle.link_steps.specs.Steps.{ledger_of_accept, was_unique, standing, unwatched, refuses, after}
use Rattle.host_calls.specs.Calls.{reply_of}
use Rattle.host_ledger.specs.Words.{ledger_at}
use Rattle.host_ledger_read_back.proofs.Accept.{accept-back}
use Rattle.host_accept_words.specs.Served.{served_words}
use Rattle.host_accept_words.proofs.Long.{served-long}
use Rattle.host_accept_words.specs.Accept.{accept_of}
use Rattle.host_accept_words.specs.Accept as plain
use Rattle.host_monitor_words.specs.Words.{monitor_at}
use Rattle.host_monitor_words.proofs.Stored.{stored}
use Rattle.host_monitor_words.proofs.Fitting.{fits-at, fits-reply}
use Rattle.host_watched_accept_words.specs.Calls.{ledger_after, monitor_after}
use Rattle.host_watched_accept.specs.Calls.{watched_accept_to}
use Rattle.host_link_history.specs.Hosted.{HostWatch, alone, watching, host_link, accept, accept_rooms, play_host}
use Rattle.host_link_history.proofs.Agreeing.{Agrees}

module _ (w : List ℕ) (long : length w ≡ 80) (keys slots probes links : List (List ℕ)) (a : Reply) (h : a.key.reflector < 2 ^ 32) where
  abbrev answer_by : ℕ → Result (Ledger × Accepted) ℕ
  answer_by k = (accept_by k (accept_on (ledger_at w) keys slots probes links a) keys slots probes links).answer

  ledger_by : (k : ℕ) → ledger_at (plain.words_after w (answer_by k)) ≡ ledger_of_accept (ledger_at w) (answer_by k)
  ledger_by zero = accept-back w long (served_words w) (λ l. refl) (λ l. refl) (λ l p o t. refl) keys slots probes links a h
  ledger_by (suc k) = refl

  long-by : (k : ℕ) → length (plain.words_after w (answer_by k)) ≡ 80
  long-by zero = served-long w (accept_on (ledger_at w) keys slots probes links a).ledger (accept_on (ledger_at w) keys slots probes links a).accepted ∙ long
  long-by (suc k) = long

  -- with a monitor: the same answer, and the monitor that then stands
  watched_ledger_by : (k : ℕ) (m : Monitor) → ledger_at (ledger_after w (watched.both_accept (answer_by k) m)) ≡ ledger_of_accept (ledger_at w) (answer_by k)
  watched_ledger_by zero m = accept-back w long (served_words w) (λ l. refl) (λ l. refl) (λ l p o t. refl) keys slots probes links a h
  watched_ledger_by (suc k) m = refl

  watched-long-by : (k : ℕ) (m : Monitor) → length (ledger_after w (watched.both_accept (answer_by k) m)) ≡ 80
  watched-long-by zero m = served-long w (accept_on (ledger_at w) keys slots probes links a).ledger (accept_on (ledger_at w) keys slots probes links a).accepted ∙ long
  watched-long-by (suc k) m = long

  watched-number_by : (k : ℕ) (m : Monitor) → watched.accept_number (watched.both_accept (answer_by k) m) ≡ accept_number (answer_by k)
  watched-number_by zero m = refl
  watched-number_by (suc k) m = refl

  -- whether the reply is unique or not
  heard-by : (words : List ℕ) (queue : List QueuedProbe) (unique : Bool) → monitor_at (monitor_after words (watched.both_accept (answer_by 0) (reply_if unique (monitor_at words) queue a.key.sender).monitor)) ≡ (reply_if unique (monitor_at words) queue a.key.sender).monitor
  heard-by words queue unique = stored _ (fits-reply unique (monitor_at words) queue a.key.sender (fits-at words))

  monitor_by : (words : List ℕ) (queue : List QueuedProbe) (k : ℕ)
      → monitor_at (monitor_after words (watched.both_accept (answer_by k) (reply_if (was_unique (answer_by k)) (monitor_at words) queue a.key.sender).monitor))
      ≡ (reply_if (was_unique (answer_by k)) (monitor_at words) queue a.key.sender).monitor
  unfolding reply_if
  monitor_by words queue zero = heard-by words queue (was_unique (answer_by 0))
  monitor_by words queue (suc k) = refl

pub accept_agrees : (ledger : List ℕ) → length ledger ≡ 80 → (v : HostWatch) (rooms : Rooms) (queue : List QueuedProbe) (sender reflector t3 pending time tag : ℕ) → reflector < 2 ^ 32
    → Agrees (host_link ledger v rooms queue) (accept sender reflector t3 pending time tag)
unfolding play_host accept_of watched_accept_to watched.accept_to accept_to refuses after
accept_agrees ledger long alone rooms queue sender reflector t3 pending time tag h =
    let a = reply_of sender reflector t3 pending time tag in
    let k = refusal_of_accept 0 (ledger_at ledger) (length rooms.keys) (length rooms.slots) (length rooms.probes) (length rooms.links) in
    let r = accept_by k (accept_on (ledger_at ledger) rooms.keys rooms.slots rooms.probes rooms.links a) rooms.keys rooms.slots rooms.probes rooms.links in (
      refl,
      (λ i. standing (ledger_by ledger long rooms.keys rooms.slots rooms.probes rooms.links a h k i) (accept_rooms rooms r.keys r.slots r.probes r.links) (unwatched queue)),
      long-by ledger long rooms.keys rooms.slots rooms.probes rooms.links a h k,
    )
accept_agrees ledger long (watching words) rooms queue sender reflector t3 pending time tag h =
    let a = reply_of sender reflector t3 pending time tag in
    let m = monitor_at words in
    let k = refusal_of_accept (monitor.refusal_of m (length queue)) (ledger_at ledger) (length rooms.keys) (length rooms.slots) (length rooms.probes) (length rooms.links) in
    let r = accept_by k (accept_on (ledger_at ledger) rooms.keys rooms.slots rooms.probes rooms.links a) rooms.keys rooms.slots rooms.probes rooms.links in
    let next = reply_if (was_unique r.answer) m queue sender in (
      watched-number_by ledger long rooms.keys rooms.slots rooms.probes rooms.links a h k next.monitor,
      (λ i. standing (watched_ledger_by ledger long rooms.keys rooms.slots rooms.probes rooms.links a h k next.monitor i) (accept_rooms rooms r.keys r.slots r.probes r.links)
          (record { watch = Some (monitor_by ledger long rooms.keys rooms.slots rooms.probes rooms.links a h words queue k i); queue = next.room })),
      watched-long-by ledger long rooms.keys rooms.slots rooms.probes rooms.links a h k next.monitor,
    )
