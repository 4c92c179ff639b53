-- What the parts of the call leave is what the whole call leaves. Assumes nothing.
use Rattle.std.specs.Prelude.{Some, None}
use mathlib.Core.Path.{◌≡◌, refl, ap, ◌∙◌}
use mathlib.Core.Bool.{Bool}
use mathlib.Core.List.{List}
use Prim.Native.Nat.{ℕ, zero, suc}
use lib.ListN.{length}
use Rattle.call_types.specs.declared.Reply.{Reply}
use Rattle.probe_queue.specs.declared.QueuedProbe.{QueuedProbe}
use Rattle.monitor.specs.declared.Monitor.{Monitor}
use Rattle.monitor.specs.Refusals.{refusal_of}
use Rattle.monitor.specs.Operations.{MonitorStand, Leaves, reply_if}
use Rattle.ledger_steps.specs.declared.Accepted.{Accepted}
use Rattle.ledger_steps.specs.declared.Accepted.TheVariants as accepted
use Rattle.ledger_steps.specs.Refusals.{refusal_of_accept}
use Rattle.ledger_steps.specs.Accept.{AcceptOutcome, accept_on}
use Rattle.ledger_steps.specs.Calls as ledger
use Rattle.link_steps.specs.Steps.{is_unique}
use Rattle.ledger_watched.specs.Watched.{accept_number, accept_by, accept_to}
use Rattle.host_calls.specs.Calls.{accepted_words}
use Rattle.host_ledger.specs.Words.{ledger_at}
use Rattle.host_monitor_words.specs.Words.{monitor_at}
use Rattle.host_accept_words.specs.Accept.{AcceptLeft, accept_left, accept_from}
use Rattle.host_watched_parts.specs.Unless.{stored_unless}
use Rattle.host_watched_accept_words.specs.declared.ReplyAnswer.{ReplyAnswer}
use Rattle.host_watched_accept_words.specs.Calls.{Left, left, answer_after, ended, zeros, heard_in, shown_in}

-- the words of an answer tell whether the reply was unique
pub heard_is : (a : Accepted) → heard_in (accepted_words a) ≡ is_unique a
heard_is accepted.Duplicate = refl
heard_is accepted.Unknown = refl
heard_is (accepted.Unique packet None train) = refl
heard_is (accepted.Unique packet (Some n) train) = refl

module _ (w monitor : List ℕ) (keys slots probes links : List (List ℕ)) (queue : List QueuedProbe) (a : Reply) where
  -- what the ledger's part left, with the monitor and its queue as they then stand
  abbrev stood_by : AcceptLeft → MonitorStand → Left
  stood_by x s = left x.number x.ledger (stored_unless x.number monitor s.monitor) x.keys x.slots x.probes x.links s.room x.answer

  -- the monitor hears what the answer's words tell
  abbrev heard_by : AcceptLeft → Left
  heard_by x = stood_by x (reply_if (heard_in x.answer) (monitor_at monitor) queue a.key.sender)

  -- by the refusal's number k, and what is left where it is 0
  by_number : (k : ℕ) (o : AcceptOutcome)
      → heard_by (accept_from w zeros (ledger.accept_by k o keys slots probes links)) ≡ ended w monitor zeros (accept_by (ledger.accept_by k o keys slots probes links) (monitor_at monitor) queue a)
  by_number zero o =
      ap (λ (go : Bool). stood_by (accept_from w zeros (ledger.accept_by 0 o keys slots probes links)) (reply_if go (monitor_at monitor) queue a.key.sender)) (heard_is o.accepted)
  by_number (suc k) o = refl

  whole : heard_by (accept_from w zeros (ledger.accept_to (refusal_of (monitor_at monitor) (length queue)) (ledger_at w) keys slots probes links a))
      ≡ ended w monitor zeros (accept_to (ledger_at w) (monitor_at monitor) keys slots probes links queue a)
  unfolding accept_to ledger.accept_to
  whole =
      by_number (refusal_of_accept (refusal_of (monitor_at monitor) (length queue)) (ledger_at w) (length keys) (length slots) (length probes) (length links))
      (accept_on (ledger_at w) keys slots probes links a)

  pub accept-joined :
      (other : ℕ) (given : ReplyAnswer) (w' : List ℕ) (keys' slots' probes' links' : List (List ℕ)) (go : Bool) (sender : ℕ) (watch next : Monitor) (queue' : List QueuedProbe) (r : ReplyAnswer) (monitor' : List ℕ)
      → other ≡ refusal_of (monitor_at monitor) (length queue)
      → accept_left given.number w' keys' slots' probes' links' given.words ≡ accept_from w zeros (ledger.accept_to other (ledger_at w) keys slots probes links a)
      → go ≡ heard_in given.words → sender ≡ a.key.sender → watch ≡ monitor_at monitor
      → Leaves (reply_if go watch queue sender) next queue'
      → (r ≡ given) × (monitor' ≡ stored_unless given.number monitor next)
      → left r.number w' monitor' keys' slots' probes' links' queue' r.words ≡ ended w monitor zeros (accept_to (ledger_at w) (monitor_at monitor) keys slots probes links queue a)
  accept-joined other given w' keys' slots' probes' links' go sender watch next queue' r monitor' eo ea eg es em en er =
      let x = accept_left given.number w' keys' slots' probes' links' given.words in
      (λ i. left (er.0 i).number w' (er.1 i) keys' slots' probes' links' (en.1 i) (er.0 i).words)
      ∙ (λ i. left given.number w' (stored_unless given.number monitor (en.0 i)) keys' slots' probes' links' (reply_if go watch queue sender).room given.words)
      ∙ (λ i. stood_by x (reply_if (eg i) (em i) queue (es i)))
      ∙ ap heard_by (ea ∙ (λ i. accept_from w zeros (ledger.accept_to (eo i) (ledger_at w) keys slots probes links a)))
      ∙ whole

-- ---- the answer's words, whatever they began with

shown_by : (words : List ℕ) (k : ℕ) (o : AcceptOutcome) (m : Monitor) (keys slots probes links : List (List ℕ)) (queue : List QueuedProbe) (a : Reply)
    → let g = (accept_by (ledger.accept_by k o keys slots probes links) m queue a).answer in shown_in (accept_number g) (answer_after zeros g) words ≡ answer_after words g
shown_by words zero o m keys slots probes links queue a = refl
shown_by words (suc k) o m keys slots probes links queue a = refl

pub shown_is : (words w monitor : List ℕ) (keys slots probes links : List (List ℕ)) (queue : List QueuedProbe) (a : Reply)
    → let g = (accept_to (ledger_at w) (monitor_at monitor) keys slots probes links queue a).answer in shown_in (accept_number g) (answer_after zeros g) words ≡ answer_after words g
unfolding accept_to ledger.accept_to
shown_is words w monitor keys slots probes links queue a =
    shown_by words (refusal_of_accept (refusal_of (monitor_at monitor) (length queue)) (ledger_at w) (length keys) (length slots) (length probes) (length links))
    (accept_on (ledger_at w) keys slots probes links a) (monitor_at monitor) keys slots probes links queue a
