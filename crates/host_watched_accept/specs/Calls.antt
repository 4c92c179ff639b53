-- What `accept` with a monitor answers and leaves for a host, on every input: `accept_to` of crate ledger_watched, of the ledger and the monitor that
-- the words say. A refusal changes no lent word.
-- Assumes nothing.
use Rattle.std.specs.Prelude.{List, ℕ}
use Rattle.probe_queue.specs.declared.QueuedProbe.{QueuedProbe}
use Rattle.ledger_watched.specs.Watched.{accept_to}
use Rattle.host_calls.specs.Calls.{reply_of}
use Rattle.host_ledger.specs.Words.{ledger_at}
use Rattle.host_monitor_words.specs.Words.{monitor_at}
use Rattle.host_watched_accept_words.specs.Calls.{Left, ended}

-- of all that is lent, and of the reply's key and pending packet; the answer's words last
unfoldable pub watched_accept_to : List ℕ → List ℕ → (keys slots probes links : List (List ℕ)) → List QueuedProbe → (sender reflector t3 pending time tag : ℕ) → List ℕ → Left
watched_accept_to ledger monitor keys slots probes links queue sender reflector t3 pending time tag answer =
    ended ledger monitor answer (accept_to (ledger_at ledger) (monitor_at monitor) keys slots probes links queue (reply_of sender reflector t3 pending time tag))
