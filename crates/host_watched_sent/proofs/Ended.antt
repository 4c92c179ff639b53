-- What the calls in a row leave is what the definition says.
-- Assumes nothing.
use mathlib.Core.Path.{◌≡◌, refl, ap, ◌∙◌}
use mathlib.Core.Bool.{Bool}
use mathlib.Core.List.{List}
use Prim.Native.Nat.{ℕ, zero, suc}
use lib.Dec.{eqb}
use lib.ListN.{length}
use borrow.Author.Tests.{ne_eqb}
use native.Mathlib.Omega.{arith}
use Rattle.call_types.specs.declared.SentProbe.{SentProbe}
use Rattle.probe_queue.specs.declared.QueuedProbe.{QueuedProbe}
use Rattle.monitor.specs.declared.Monitor.{Monitor}
use Rattle.monitor.specs.Refusals.{refusal_of_sent}
use Rattle.monitor.specs.Operations.{MonitorStand, Leaves, sent_if}
use Rattle.ledger_steps.specs.Refusals as ledger-refusals
use Rattle.ledger_steps.specs.Sent.{SentOutcome, sent_on}
use Rattle.ledger_steps.specs.Calls as ledger
use Rattle.ledger_watched.specs.Watched.{sent_by, sent_to}
use Rattle.host_calls.specs.Calls.{sent_probe_of}
use Rattle.host_ledger.specs.Words.{ledger_at}
use Rattle.host_monitor_words.specs.Words.{monitor_at}
use Rattle.host_sent_words.specs.Sent.{SentLeft, sent_left, sent_from}
use Rattle.host_watched_parts.specs.Unless.{stored_unless}
use Rattle.host_watched_sent.specs.Calls.{Left, left, ended, watched_sent_to}

module _ (w monitor : List ℕ) (probes links : List (List ℕ)) (queue : List QueuedProbe) (sequence ordinal train time tag : ℕ) where
  abbrev told : SentProbe
  told = sent_probe_of sequence ordinal train time tag

  -- what the ledger's part left, with the monitor and its queue as they then stand
  abbrev stood_by : SentLeft → MonitorStand → Left
  stood_by x s = left x.number x.ledger (stored_unless x.number monitor s.monitor) x.probes x.links s.room

  -- the monitor goes on where the number is 0
  abbrev gone_by : SentLeft → Left
  gone_by x = stood_by x (sent_if (eqb x.number 0) (monitor_at monitor) queue sequence time)

  -- by the refusal's number k, and what is left where it is 0
  by_number : (k : ℕ) (o : SentOutcome) → gone_by (sent_from w (ledger.sent_by k o probes links)) ≡ ended w monitor (sent_by (ledger.sent_by k o probes links) (monitor_at monitor) queue told)
  by_number zero o = refl
  by_number (suc k) o =
      ap (λ (go : Bool). stood_by (sent_from w (ledger.sent_by (suc k) o probes links)) (sent_if go (monitor_at monitor) queue sequence time))
      (ne_eqb (suc k) 0 (λ (e : suc k ≡ 0). omega (arith, e)))

  whole : gone_by (sent_from w (ledger.sent_to (refusal_of_sent (monitor_at monitor) (length queue) time) (ledger_at w) probes links told))
      ≡ ended w monitor (sent_to (ledger_at w) (monitor_at monitor) probes links queue told)
  unfolding sent_to ledger.sent_to
  whole =
      by_number (ledger-refusals.refusal_of_sent (refusal_of_sent (monitor_at monitor) (length queue) time) (ledger_at w) (length probes) (length links))
      (sent_on (ledger_at w) probes links told)

  pub sent_ends :
      (probe : SentProbe) (other number : ℕ) (w' : List ℕ) (probes' links' : List (List ℕ)) (go : Bool) (watch next : Monitor) (queue' : List QueuedProbe) (r : ℕ) (monitor' : List ℕ)
      → probe ≡ told → other ≡ refusal_of_sent (monitor_at monitor) (length queue) time
      → sent_left number w' probes' links' ≡ sent_from w (ledger.sent_to other (ledger_at w) probes links probe)
      → go ≡ eqb number 0 → watch ≡ monitor_at monitor
      → Leaves (sent_if go watch queue sequence time) next queue'
      → (r ≡ number) × (monitor' ≡ stored_unless number monitor next)
      → left r w' monitor' probes' links' queue' ≡ watched_sent_to w monitor probes links queue sequence ordinal train time tag
  unfolding watched_sent_to
  sent_ends probe other number w' probes' links' go watch next queue' r monitor' ep eo es eg em en er =
      let x = sent_left number w' probes' links' in
      (λ i. left (er.0 i) w' (er.1 i) probes' links' (en.1 i))
      ∙ (λ i. left number w' (stored_unless number monitor (en.0 i)) probes' links' (sent_if go watch queue sequence time).room)
      ∙ (λ i. stood_by x (sent_if (eg i) (em i) queue sequence time))
      ∙ ap gone_by (es ∙ (λ i. sent_from w (ledger.sent_to (eo i) (ledger_at w) probes links (ep i))))
      ∙ whole
