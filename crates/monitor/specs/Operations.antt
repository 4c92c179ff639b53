-- The operations of document 01, "Monitor", on a monitor and the room that its queue lies in: what a served call leaves.
-- What they mean, over a plain list of queued probes and a set of marked sequences, is in crate monitor_model.
use Rattle.std.specs.Prelude.{◌≡◌, Bool, true, false, ◌&&◌, List, ℕ, ◌+◌, length, set, leb, ltb, eqb}
use Rattle.probe_queue.specs.declared.QueuedProbe.{QueuedProbe}
use Rattle.probe_queue.specs.declared.QueueRing.{QueueRing}
use Rattle.probe_queue.specs.declared.Rule.TheVariants.{Due, Below, Until, Unmarked}
use Rattle.probe_queue.specs.Queue.{choose, place, after, queued, leading, passes, popped}
use Rattle.monitor.specs.declared.State.TheVariants.{Idle}
use Rattle.monitor.specs.declared.Monitor.{Monitor}
use Rattle.monitor.specs.declared.Summary.{Summary}
use Rattle.monitor.specs.Refusals.{refusal_of, refusal_of_sent, served}
use Rattle.monitor.specs.States.{loses, hears, stops}

-- a monitor with its room
pub record MonitorStand : Type 0 where
  pub monitor : Monitor
  pub room : List QueuedProbe

-- what a call hands back and leaves in the room
abbrev pub Leaves : MonitorStand → Monitor → List QueuedProbe → Type 0
Leaves stand m room = (m ≡ stand.monitor) × (room ≡ stand.room)

-- a fresh monitor: threshold 0 counts as 1
abbrev pub fresh : ℕ → ℕ → Monitor
fresh threshold timeout =
    record {
      summary = record { state = Idle; loss_threshold = choose (eqb threshold 0) 1 threshold; consecutive_losses = 0; active_notifications = 0; failed_notifications = 0; idle_notifications = 0 };
      timeout = timeout;
      transmitting = false;
      ring = record { head = 0; len = 0 };
      run = 0;
      latest = 0;
    }

-- the monitor with another summary and ring
abbrev pub standing : Monitor → Summary → QueueRing → Monitor
standing m s ring = record { summary = s; timeout = m.timeout; transmitting = m.transmitting; ring = ring; run = m.run; latest = m.latest }

-- whether the queued sequences are known to ascend, so that none is queued twice: the run of the last ones that do covers the queue
abbrev pub ascending : Monitor → Bool
ascending m = leb m.ring.len m.run

-- of n pops, how many unmark what stays queued: none where no sequence is queued twice
abbrev pub repeated : Monitor → ℕ → ℕ
repeated m n = choose (ascending m) 0 n

-- n probes are popped from the front, and the summary changes
abbrev pub pops : Monitor → List QueuedProbe → ℕ → Summary → MonitorStand
pops m room n s = record { monitor = standing m s (after m.ring n); room = popped room m.ring (after m.ring n) (repeated m n) }

-- the smaller of two
abbrev pub least : ℕ → ℕ → ℕ
least a b = choose (leb a b) a b

-- how many of the last queued sequences ascend once one more is queued
abbrev pub runs : Monitor → ℕ → ℕ
runs m sequence = choose (eqb m.ring.len 0) 1 (choose (ltb m.latest sequence) (least m.run m.ring.len + 1) 1)

-- `sent` with timeout above 0 queues the probe and marks its sequence
abbrev pub queues : Monitor → List QueuedProbe → ℕ → ℕ → MonitorStand
queues m room sequence time =
    record {
      monitor = record { summary = m.summary; timeout = m.timeout; transmitting = true; ring = record { head = m.ring.head; len = m.ring.len + 1 }; run = runs m sequence; latest = sequence };
      room = set room (place m.ring m.ring.len) (record { sequence = sequence; deadline = time + m.timeout; mark = 1 });
    }

-- `sent` starts transmitting
abbrev pub starts : Monitor → Monitor
starts m = record { summary = m.summary; timeout = m.timeout; transmitting = true; ring = m.ring; run = m.run; latest = m.latest }

-- `sent` of a sequence at a send time; with timeout 0 nothing is queued
unfoldable pub sent_on : Monitor → List QueuedProbe → ℕ → ℕ → MonitorStand
sent_on m room sequence time = choose (ltb 0 m.timeout) (queues m room sequence time) (record { monitor = starts m; room = room })

-- where a reply's sequence is looked for: in the whole queue, or where sequences ascend up to the first that is not below it
abbrev pub searched : Monitor → List QueuedProbe → ℕ → QueueRing
searched m room sequence =
    record { head = m.ring.head; len = choose (ascending m) (least (leading (passes (Below sequence)) (queued room m.ring) + 1) m.ring.len) m.ring.len }

-- how many probes a search pops: up to and including the first of the sequence, where one of it is marked
abbrev pub taken : List QueuedProbe → QueueRing → ℕ → ℕ
taken room search sequence =
    choose (ltb (leading (passes (Unmarked sequence)) (queued room search)) search.len) (leading (passes (Until sequence)) (queued room search) + 1) 0

-- a reply while transmitting: pops up to its sequence if that is marked, losses 0, state Active
unfoldable pub reply_on : Monitor → List QueuedProbe → ℕ → MonitorStand
reply_on m room sequence = pops m room (taken room (searched m room sequence) sequence) (hears m.summary)

-- how many front probes have a deadline at or before a time
abbrev pub due : Monitor → List QueuedProbe → ℕ → ℕ
due m room time = leading (passes (Due time)) (queued room m.ring)

-- `advance` pops the front probes that are due, one loss for each while transmitting
unfoldable pub advance_on : Monitor → List QueuedProbe → ℕ → MonitorStand
advance_on m room time = pops m room (due m room time) (choose m.transmitting (loses (due m room time) m.summary) m.summary)

-- `idle` stops and empties
unfoldable pub idle_on : Monitor → Monitor
idle_on m = record { summary = stops m.transmitting m.summary; timeout = m.timeout; transmitting = false; ring = record { head = m.ring.head; len = 0 }; run = m.run; latest = m.latest }

-- nothing is changed
abbrev pub unchanged : Monitor → List QueuedProbe → MonitorStand
unchanged m room = record { monitor = m; room = room }

-- the same where whoever calls may not want it to go on, or it is refused
unfoldable pub sent_if : Bool → Monitor → List QueuedProbe → ℕ → ℕ → MonitorStand
sent_if go m room sequence time = choose (served go (refusal_of_sent m (length room) time)) (sent_on m room sequence time) (unchanged m room)

-- a reply while not transmitting changes nothing
unfoldable pub reply_if : Bool → Monitor → List QueuedProbe → ℕ → MonitorStand
reply_if go m room sequence = choose (served go (refusal_of m (length room)) && m.transmitting) (reply_on m room sequence) (unchanged m room)

-- a refused `advance` changes nothing
unfoldable pub advance_if : Bool → Monitor → List QueuedProbe → ℕ → MonitorStand
advance_if go m room time = choose (served go (refusal_of m (length room))) (advance_on m room time) (unchanged m room)
