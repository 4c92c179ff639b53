-- What `sent` with a monitor answers and leaves for a host, on every input: `sent_to` of crate ledger_watched, of the ledger and the monitor that the
-- words say. A refusal changes no lent word.
-- Assumes nothing.
use Rattle.ledger_state.specs.declared.Ledger.{Ledger}
use Rattle.monitor.specs.declared.Monitor.{Monitor}
use Rattle.std.specs.Prelude.{List, ℕ, Result, Ok, Err}
use Rattle.probe_queue.specs.declared.QueuedProbe.{QueuedProbe}
use Rattle.ledger_watched.specs.Watched.{SentResult, number, sent_to}
use Rattle.host_calls.specs.Calls.{sent_probe_of}
use Rattle.host_ledger.specs.Words.{ledger_at}
use Rattle.host_ledger.specs.Left.{sent_words}
use Rattle.host_monitor_words.specs.Words.{monitor_at, words_of}

-- the number, and what is left of everything lent
pub record Left : Type 0 where
  pub number : ℕ
  pub ledger : List ℕ
  pub monitor : List ℕ
  pub probes : List (List ℕ)
  pub links : List (List ℕ)
  pub queue : List QueuedProbe

-- the record above, made of its parts in their order
abbrev pub left : ℕ → List ℕ → List ℕ → List (List ℕ) → List (List ℕ) → List QueuedProbe → Left
left n ledger monitor probes links queue = record { number = n; ledger = ledger; monitor = monitor; probes = probes; links = links; queue = queue }

-- the ledger's words: of the next ledger, or as they were where the call was refused
abbrev pub ledger_after : List ℕ → Result (Ledger × Monitor) ℕ → List ℕ
ledger_after words (Ok (l, m)) = sent_words words l
ledger_after words (Err n) = words

-- the monitor's words, likewise
abbrev pub monitor_after : List ℕ → Result (Ledger × Monitor) ℕ → List ℕ
monitor_after words (Ok (l, m)) = words_of m
monitor_after words (Err n) = words

-- what an answer leaves: its number, the words of both parts, and the rooms of its result
abbrev pub ended : List ℕ → List ℕ → SentResult → Left
ended ledger monitor r = left (number r.answer) (ledger_after ledger r.answer) (monitor_after monitor r.answer) r.probes r.links r.queue

-- `sent` of this probe, to the ledger and the monitor that the words say
unfoldable pub watched_sent_to : List ℕ → List ℕ → List (List ℕ) → List (List ℕ) → List QueuedProbe → (sequence ordinal train time tag : ℕ) → Left
watched_sent_to ledger monitor probes links queue sequence ordinal train time tag =
    ended ledger monitor (sent_to (ledger_at ledger) (monitor_at monitor) probes links queue (sent_probe_of sequence ordinal train time tag))
