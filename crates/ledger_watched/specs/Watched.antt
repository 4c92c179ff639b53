-- `sent` and `accept` of a ledger with a monitor: what each answers and leaves, on every input. A refusal of either part is a refusal of the call,
-- and changes neither.
-- Assumes nothing.
use Rattle.ledger_steps.specs.declared.Accepted.{Accepted}
use Rattle.std.specs.Prelude.{List, ℕ, length, Result, Ok, Err}
use Rattle.call_types.specs.declared.SentProbe.{SentProbe}
use Rattle.call_types.specs.declared.Reply.{Reply}
use Rattle.probe_queue.specs.declared.QueuedProbe.{QueuedProbe}
use Rattle.monitor.specs.declared.Monitor.{Monitor}
use Rattle.monitor.specs.Refusals as monitor
use Rattle.monitor.specs.Operations.{MonitorStand, sent_if, reply_if}
use Rattle.ledger_state.specs.declared.Ledger.{Ledger}
use Rattle.ledger_steps.specs.Calls as ledger
use Rattle.link_steps.specs.Steps.{was_served, was_unique}

-- ---- document 01's number of an answer, 0 where the call was served

-- of `sent`
abbrev pub number : Result (Ledger × Monitor) ℕ → ℕ
number (Ok (l, m)) = 0
number (Err n) = n

-- of `accept`
abbrev pub accept_number : Result (Ledger × Monitor × Accepted) ℕ → ℕ
accept_number (Ok (l, m, a)) = 0
accept_number (Err n) = n

-- ---- `sent`

-- the answer, the rooms and the queue
pub record SentResult : Type 0 where
  pub answer : Result (Ledger × Monitor) ℕ
  pub probes : List (List ℕ)
  pub links : List (List ℕ)
  pub queue : List QueuedProbe

-- the result of a `sent` with a monitor, made of its answer, the rooms and the queue
abbrev pub sent_result : Result (Ledger × Monitor) ℕ → List (List ℕ) → List (List ℕ) → List QueuedProbe → SentResult
sent_result r probes links queue = record { answer = r; probes = probes; links = links; queue = queue }

-- the ledger's answer, with the monitor
abbrev pub both_sent : Result Ledger ℕ → Monitor → Result (Ledger × Monitor) ℕ
both_sent (Ok l) m = Ok (l, m)
both_sent (Err n) m = Err n

-- the ledger's answer and rooms, with the monitor and its queue as they then stand
abbrev pub sent_with : ledger.SentResult → MonitorStand → SentResult
sent_with r stand = sent_result (both_sent r.answer stand.monitor) r.probes r.links stand.room

-- the monitor goes on where the ledger was served
abbrev pub sent_by : ledger.SentResult → Monitor → List QueuedProbe → SentProbe → SentResult
sent_by r m queue s = sent_with r (sent_if (was_served r.answer) m queue s.sequence s.packet.time)

-- the ledger is refused also for the monitor's sake
unfoldable pub sent_to : Ledger → Monitor → List (List ℕ) → List (List ℕ) → List QueuedProbe → SentProbe → SentResult
sent_to l m probes links queue s = sent_by (ledger.sent_to (monitor.refusal_of_sent m (length queue) s.packet.time) l probes links s) m queue s

-- ---- `accept`

-- the answer, the four rooms of the ledger, and the queue
pub record AcceptResult : Type 0 where
  pub answer : Result (Ledger × Monitor × Accepted) ℕ
  pub keys : List (List ℕ)
  pub slots : List (List ℕ)
  pub probes : List (List ℕ)
  pub links : List (List ℕ)
  pub queue : List QueuedProbe

-- the result of an `accept` with a monitor, made of its answer, the rooms and the queue
abbrev pub accept_result : Result (Ledger × Monitor × Accepted) ℕ → List (List ℕ) → List (List ℕ) → List (List ℕ) → List (List ℕ) → List QueuedProbe → AcceptResult
accept_result r keys slots probes links queue = record { answer = r; keys = keys; slots = slots; probes = probes; links = links; queue = queue }

-- the ledger's answer, with the monitor where it was served
abbrev pub both_accept : Result (Ledger × Accepted) ℕ → Monitor → Result (Ledger × Monitor × Accepted) ℕ
both_accept (Ok (l, a)) m = Ok (l, m, a)
both_accept (Err n) m = Err n

-- the ledger's answer and rooms, with the monitor and its queue as they then stand
abbrev pub accept_with : ledger.AcceptResult → MonitorStand → AcceptResult
accept_with r stand = accept_result (both_accept r.answer stand.monitor) r.keys r.slots r.probes r.links stand.room

-- the monitor hears a unique reply
abbrev pub accept_by : ledger.AcceptResult → Monitor → List QueuedProbe → Reply → AcceptResult
accept_by r m queue a = accept_with r (reply_if (was_unique r.answer) m queue a.key.sender)

-- the ledger is refused also for the monitor's sake
unfoldable pub accept_to : Ledger → Monitor → List (List ℕ) → List (List ℕ) → List (List ℕ) → List (List ℕ) → List QueuedProbe → Reply → AcceptResult
accept_to l m keys slots probes links queue a =
    accept_by (ledger.accept_to (monitor.refusal_of m (length queue)) l keys slots probes links a) m queue a
