-- `sent` of a host is the library's on the link that the words say, with a monitor and without.
-- Assumes nothing.
use Rattle.std.specs.Prelude.{Some, Result}
use mathlib.Core.Path.{◌≡◌, refl, ◌∙◌}
use mathlib.Core.Bool.{true}
use mathlib.Core.List.{List}
use Prim.Native.Nat.{ℕ, zero, suc, ◌<◌, ◌^◌}
use lib.ListN.{length, set, length-set}
use Rattle.call_types.specs.declared.SentProbe.{SentProbe}
use Rattle.probe_queue.specs.declared.QueuedProbe.{QueuedProbe}
use Rattle.monitor.specs.declared.Monitor.{Monitor}
use Rattle.monitor.specs.Refusals as monitor
use Rattle.monitor.specs.Operations.{sent_if}
use Rattle.ledger_state.specs.declared.Ledger.{Ledger}
use Rattle.ledger_steps.specs.Rooms.{Rooms}
use Rattle.ledger_steps.specs.Refusals.{refusal_of_sent}
use Rattle.ledger_steps.specs.Sent.{sent_on}
use Rattle.ledger_steps.specs.Calls.{number, sent_by, sent_to}
use Rattle.ledger_watched.specs.Watched as watched
use Rattle.link_steps.specs.Steps.{ledger_of, was_served, standing, unwatched, refuses, after}
use Rattle.host_calls.specs.Calls.{sent_probe_of}
use Rattle.host_ledger.specs.Words.{ledger_at}
use Rattle.host_ledger.specs.Left.{sent_words}
use Rattle.host_ledger_read_back.proofs.Sent.{sent_back}
use Rattle.host_sent.specs.Sent.{sent_of}
use Rattle.host_sent_words.specs.Sent as plain
use Rattle.host_monitor_words.specs.Words.{monitor_at}
use Rattle.host_monitor_words.proofs.Stored.{stored}
use Rattle.host_monitor_words.proofs.Fitting.{fits-at, fits-sent}
use Rattle.host_watched_sent.specs.Calls.{ledger_after, monitor_after, watched_sent_to}
use Rattle.host_link_history.specs.Hosted.{HostWatch, alone, watching, host_link, sent, sent_rooms, play_host}
use Rattle.host_link_history.proofs.Agreeing.{Agrees}

-- the words that `sent` leaves are as many as before
long_after : (w : List ℕ) (next : Ledger) → length (sent_words w next) ≡ length w
unfolding sent_words
long_after w next =
    let first = set w 5 next.calls in
    let second = set first 8 next.tables.probes.head in
    let third = set second 9 next.tables.probes.len in
    let fourth = set third 11 next.counts.replies.totals.requested in
    let fifth = set fourth 23 next.counts.replies.evicted.probes in
    length-set fifth 72 next.counts.replies.evicted.unanswered ∙ length-set fourth 23 next.counts.replies.evicted.probes ∙ length-set third 11 next.counts.replies.totals.requested ∙ length-set second 9 next.tables.probes.len
    ∙ length-set first 8 next.tables.probes.head ∙ length-set w 5 next.calls

module _ (w : List ℕ) (long : length w ≡ 80) (probes links : List (List ℕ)) (s : SentProbe) where
  abbrev answer_by : ℕ → Result Ledger ℕ
  answer_by k = (sent_by k (sent_on (ledger_at w) probes links s) probes links).answer

  ledger_by : (k : ℕ) → ledger_at (plain.words_after w (answer_by k)) ≡ ledger_of (ledger_at w) (answer_by k)
  ledger_by zero = sent_back w long probes links s
  ledger_by (suc k) = refl

  long-by : (k : ℕ) → length (plain.words_after w (answer_by k)) ≡ 80
  long-by zero = long_after w (sent_on (ledger_at w) probes links s).ledger ∙ long
  long-by (suc k) = long

  -- with a monitor: the same answer, and the monitor that then stands
  watched_ledger_by : (k : ℕ) (m : Monitor) → ledger_at (ledger_after w (watched.both_sent (answer_by k) m)) ≡ ledger_of (ledger_at w) (answer_by k)
  watched_ledger_by zero m = sent_back w long probes links s
  watched_ledger_by (suc k) m = refl

  watched-long-by : (k : ℕ) (m : Monitor) → length (ledger_after w (watched.both_sent (answer_by k) m)) ≡ 80
  watched-long-by zero m = long_after w (sent_on (ledger_at w) probes links s).ledger ∙ long
  watched-long-by (suc k) m = long

  watched-number_by : (k : ℕ) (m : Monitor) → watched.number (watched.both_sent (answer_by k) m) ≡ number (answer_by k)
  watched-number_by zero m = refl
  watched-number_by (suc k) m = refl

  monitor_by : (words : List ℕ) (queue : List QueuedProbe) → s.sequence < 2 ^ 32 → (k : ℕ)
      → monitor_at (monitor_after words (watched.both_sent (answer_by k) (sent_if (was_served (answer_by k)) (monitor_at words) queue s.sequence s.packet.time).monitor))
      ≡ (sent_if (was_served (answer_by k)) (monitor_at words) queue s.sequence s.packet.time).monitor
  unfolding sent_if
  monitor_by words queue h zero = stored _ (fits-sent true (monitor_at words) queue s.sequence s.packet.time h (fits-at words))
  monitor_by words queue h (suc k) = refl

pub sent_agrees : (ledger : List ℕ) → length ledger ≡ 80 → (v : HostWatch) (rooms : Rooms) (queue : List QueuedProbe) (sequence ordinal train time tag : ℕ) → sequence < 2 ^ 32
    → Agrees (host_link ledger v rooms queue) (sent sequence ordinal train time tag)
unfolding play_host sent_of watched_sent_to watched.sent_to sent_to refuses after
sent_agrees ledger long alone rooms queue sequence ordinal train time tag h =
    let s = sent_probe_of sequence ordinal train time tag in
    let k = refusal_of_sent 0 (ledger_at ledger) (length rooms.probes) (length rooms.links) in
    let r = sent_by k (sent_on (ledger_at ledger) rooms.probes rooms.links s) rooms.probes rooms.links in
    (refl, (λ i. standing (ledger_by ledger long rooms.probes rooms.links s k i) (sent_rooms rooms r.probes r.links) (unwatched queue)), long-by ledger long rooms.probes rooms.links s k)
sent_agrees ledger long (watching words) rooms queue sequence ordinal train time tag h =
    let s = sent_probe_of sequence ordinal train time tag in
    let m = monitor_at words in
    let k = refusal_of_sent (monitor.refusal_of_sent m (length queue) time) (ledger_at ledger) (length rooms.probes) (length rooms.links) in
    let r = sent_by k (sent_on (ledger_at ledger) rooms.probes rooms.links s) rooms.probes rooms.links in
    let next = sent_if (was_served r.answer) m queue sequence time in (
      watched-number_by ledger long rooms.probes rooms.links s k next.monitor,
      (λ i. standing (watched_ledger_by ledger long rooms.probes rooms.links s k next.monitor i) (sent_rooms rooms r.probes r.links)
          (record { watch = Some (monitor_by ledger long rooms.probes rooms.links s words queue h k i); queue = next.room })),
      watched-long-by ledger long rooms.probes rooms.links s k next.monitor,
    )
