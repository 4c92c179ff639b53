-- What an answer of `accept` with a monitor leaves of what a host lends, and what is told of a reply. A refusal changes no lent word.
-- Assumes nothing.
use Rattle.ledger_state.specs.declared.Ledger.{Ledger}
use Rattle.ledger_steps.specs.declared.Accepted.{Accepted}
use Rattle.monitor.specs.declared.Monitor.{Monitor}
use Rattle.std.specs.Prelude.{Bool, List, [], ◌∷◌, ℕ, zero, suc, eqb, get_or, Result, Ok, Err}
use Rattle.probe_queue.specs.declared.QueuedProbe.{QueuedProbe}
use Rattle.ledger_watched.specs.Watched.{AcceptResult, accept_number}
use Rattle.host_calls.specs.Calls.{accepted_words}
use Rattle.host_accept_words.specs.Served.{served_words}
use Rattle.host_monitor_words.specs.Words.{words_of}

-- the number, and what is left of everything lent
pub record Left : Type 0 where
  pub number : ℕ
  pub ledger : List ℕ
  pub monitor : List ℕ
  pub keys : List (List ℕ)
  pub slots : List (List ℕ)
  pub probes : List (List ℕ)
  pub links : List (List ℕ)
  pub queue : List QueuedProbe
  pub answer : List ℕ

-- the record above, made of its parts in their order
abbrev pub left : ℕ → List ℕ → List ℕ → (keys slots probes links : List (List ℕ)) → List QueuedProbe → List ℕ → Left
left n ledger monitor keys slots probes links queue answer =
    record { number = n; ledger = ledger; monitor = monitor; keys = keys; slots = slots; probes = probes; links = links; queue = queue; answer = answer }

-- the words of each part: of the next one, or as they were where the call was refused
abbrev pub ledger_after : List ℕ → Result (Ledger × Monitor × Accepted) ℕ → List ℕ
ledger_after words (Ok (l, m, a)) = served_words words l a
ledger_after words (Err n) = words

-- the words of the monitor as it then stands, or as they were where the call was refused
abbrev pub monitor_after : List ℕ → Result (Ledger × Monitor × Accepted) ℕ → List ℕ
monitor_after words (Ok (l, m, a)) = words_of m
monitor_after words (Err n) = words

-- the class, with packet and ordinal where it is unique; as they were where the call was refused
abbrev pub answer_after : List ℕ → Result (Ledger × Monitor × Accepted) ℕ → List ℕ
answer_after words (Ok (l, m, a)) = accepted_words a
answer_after words (Err n) = words

-- by the library's answer, of the words of ledger, monitor and answer before the call
abbrev pub ended : List ℕ → List ℕ → List ℕ → AcceptResult → Left
ended ledger monitor answer r =
    left (accept_number r.answer) (ledger_after ledger r.answer) (monitor_after monitor r.answer) r.keys r.slots r.probes r.links r.queue (answer_after answer r.answer)

-- ---- what is told of a reply before its answer's words are stored

-- the answer's words of a reply that was refused
abbrev pub zeros : List ℕ
zeros = 0 ∷ 0 ∷ 0 ∷ 0 ∷ 0 ∷ 0 ∷ []

-- whether the reply was unique, by the answer's words
abbrev pub heard_in : List ℕ → Bool
heard_in words = eqb (get_or words 0 0) 2

-- the answer's words after a call with this number: those told, or as they were where it was refused
abbrev pub shown_in : ℕ → List ℕ → List ℕ → List ℕ
shown_in zero told words = told
shown_in (suc n) told words = words
