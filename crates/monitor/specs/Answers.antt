-- What the host is handed: the next monitor, or a refusal's number alone.
use Rattle.std.specs.Prelude.{◌≡◌, true, List, ℕ, length, get_or, eqb, Result, Ok, Err, Option, Some, None}
use Rattle.limits.specs.Limits.{capacity}
use Rattle.limits.specs.Refusals.{wrong_room}
use Rattle.probe_queue.specs.declared.QueuedProbe.{QueuedProbe}
use Rattle.probe_queue.specs.Queue.{choose, nil}
use Rattle.monitor.specs.declared.Monitor.{Monitor}
use Rattle.monitor.specs.Refusals.{misplaced, refusal_of, refusal_of_sent}
use Rattle.monitor.specs.Operations.{MonitorStand, sent_if, reply_if, advance_if, idle_on}

-- document 01's number of an answer, 0 where the call was served
abbrev pub number : Result Monitor ℕ → ℕ
number (Ok m) = 0
number (Err n) = n

-- the answer with a number: served exactly at 0. The promises use it; `number` takes it apart again
unfoldable pub answered : ℕ → Monitor → Result Monitor ℕ
answered refusal m = choose (eqb refusal 0) (Ok m) (Err refusal)

-- an answer, and what is left in the room
pub record Outcome : Type 0 where
  pub answer : Result Monitor ℕ
  pub room : List QueuedProbe

-- what a call hands back and leaves in the room
abbrev pub Ends : Outcome → Result Monitor ℕ → List QueuedProbe → Type 0
Ends outcome r room = (r ≡ outcome.answer) × (room ≡ outcome.room)

-- a refusal returns its number only and changes nothing
abbrev pub outcome : ℕ → MonitorStand → Outcome
outcome refusal stand = record { answer = answered refusal stand.monitor; room = stand.room }

-- `sent` of a sequence at a send time
unfoldable pub sent_to : Monitor → List QueuedProbe → ℕ → ℕ → Outcome
sent_to m room sequence time = outcome (refusal_of_sent m (length room) time) (sent_if true m room sequence time)

-- a reply to a sequence
unfoldable pub reply_to : Monitor → List QueuedProbe → ℕ → Outcome
reply_to m room sequence = outcome (refusal_of m (length room)) (reply_if true m room sequence)

-- `advance` to a time: now
unfoldable pub advance_to : Monitor → List QueuedProbe → ℕ → Outcome
advance_to m room time = outcome (refusal_of m (length room)) (advance_if true m room time)

-- `idle` is lent no room: its head and length are tested all the same
unfoldable pub idle_to : Monitor → Result Monitor ℕ
idle_to m = choose (eqb (refusal_of m capacity) 0) (Ok (idle_on m)) (Err (refusal_of m capacity))

-- document 01's number of a deadline, 0 where there is one or none
abbrev pub deadline_number : Result (Option ℕ) ℕ → ℕ
deadline_number (Ok None) = 0
deadline_number (Ok (Some time)) = 0
deadline_number (Err n) = n

-- the front probe's deadline, or none
unfoldable pub deadline_of : Monitor → List QueuedProbe → Result (Option ℕ) ℕ
deadline_of m room = choose (misplaced m (length room)) (Err wrong_room) (choose (eqb m.ring.len 0) (Ok None) (Ok (Some (get_or room m.ring.head nil).deadline)))
