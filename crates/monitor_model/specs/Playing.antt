-- Calls one after another, each given what the last one left: on the plain model, and on the monitor with its room.
use Rattle.monitor.specs.declared.Monitor.{Monitor}
use Rattle.std.specs.Prelude.{◌≡◌, Bool, true, false, List, [], ◌∷◌, map, ℕ, eqb, Result, Ok, Err}
use Rattle.probe_queue.specs.declared.QueuedProbe.{QueuedProbe}
use Rattle.probe_queue.specs.Queue.{choose, queued, is_marked}
use Rattle.monitor.specs.Operations.{MonitorStand}
use Rattle.monitor.specs.Answers.{Outcome, number, sent_to, reply_to, advance_to, idle_to}
use Rattle.monitor_model.specs.Plain.{Sent, Plain, sent, reply, advance, idle, refusal, sent_refusal}

-- a call of the host
pub data Call : Type 0 where
  sending : ℕ → ℕ → Call
  replying : ℕ → Call
  advancing : ℕ → Call
  idling : Call

-- a call's number, and what stands after it: a refused call changes nothing
pub record PlainStep : Type 0 where
  pub number : ℕ
  pub plain : Plain

-- of a call with this number: what it does, where the number is 0; else what stood before
abbrev pub serve : ℕ → Plain → Plain → PlainStep
serve n before after = record { number = n; plain = choose (eqb n 0) after before }

-- one call on the plain model
unfoldable pub play_plain : Call → Plain → PlainStep
play_plain (sending s t) p = serve (sent_refusal p t) p (sent p s t)
play_plain (replying s) p = serve (refusal p) p (reply p s)
play_plain (advancing t) p = serve (refusal p) p (advance p t)
play_plain idling p = serve (refusal p) p (idle p)

-- the same of the monitor: the host keeps the monitor that it had where the answer is a refusal
pub record RingStep : Type 0 where
  pub number : ℕ
  pub stand : MonitorStand

-- what the host then holds: the monitor that is handed back, or its own where refused; the room as it was left
abbrev pub keep : MonitorStand → Result Monitor ℕ → List QueuedProbe → MonitorStand
keep x (Ok m) room = record { monitor = m; room = room }
keep x (Err n) room = record { monitor = x.monitor; room = room }

-- a call's number, and what the host then holds
abbrev pub take : MonitorStand → Outcome → RingStep
take x o = record { number = number o.answer; stand = keep x o.answer o.room }

-- one call on the monitor with its room; `idle` is lent no room
unfoldable pub play_ring : Call → MonitorStand → RingStep
play_ring (sending s t) x = take x (sent_to x.monitor x.room s t)
play_ring (replying s) x = take x (reply_to x.monitor x.room s)
play_ring (advancing t) x = take x (advance_to x.monitor x.room t)
play_ring idling x = take x (record { answer = idle_to x.monitor; room = x.room })

-- the numbers of all calls
unfoldable pub plain_numbers : List Call → Plain → List ℕ
plain_numbers [] p = []
plain_numbers (c ∷ cs) p = (play_plain c p).number ∷ plain_numbers cs (play_plain c p).plain

-- the same of the monitor with its room
unfoldable pub ring_numbers : List Call → MonitorStand → List ℕ
ring_numbers [] x = []
ring_numbers (c ∷ cs) x = (play_ring c x).number ∷ ring_numbers cs (play_ring c x).stand

-- what stands after all calls
unfoldable pub plain_after : List Call → Plain → Plain
plain_after [] p = p
plain_after (c ∷ cs) p = plain_after cs (play_plain c p).plain

-- the same of the monitor with its room
unfoldable pub ring_after : List Call → MonitorStand → MonitorStand
ring_after [] x = x
ring_after (c ∷ cs) x = ring_after cs (play_ring c x).stand

-- a record's probe, and whether any record of a sequence is marked
abbrev pub plain_probe_of : QueuedProbe → Sent
plain_probe_of p = record { sequence = p.sequence; deadline = p.deadline }

-- whether any of these records has the sequence s and the mark
abbrev pub marked : ℕ → List QueuedProbe → Bool
marked s [] = false
marked s (p ∷ ps) = choose (eqb p.sequence s) (choose (is_marked p) true (marked s ps)) (marked s ps)

-- the monitor with its room shows the plain state: its summary, its queued probes and its set of marked sequences
pub record Shows (x : MonitorStand) (p : Plain) : Type 0 where
  pub summary : x.monitor.summary ≡ p.summary
  pub timeout : x.monitor.timeout ≡ p.timeout
  pub transmitting : x.monitor.transmitting ≡ p.transmitting
  pub probes : map plain_probe_of (queued x.room x.monitor.ring) ≡ p.probes
  pub received : (s : ℕ) → marked s (queued x.room x.monitor.ring) ≡ p.received s
