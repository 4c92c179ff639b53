-- What the steps between two uses of the queue hand on: each is one part of an operation of Operations.antt.
-- Where a call is not served, the ring that is looked at is empty, so that nothing is popped, and the place of a new probe is past the end of the room, so that nothing is stored.
use Rattle.std.specs.Prelude.{Bool, true, ◌&&◌, ℕ, ◌+◌, ltb, eqb, Result, Ok, Err, Option, Some, None}
use Rattle.probe_queue.specs.declared.QueuedProbe.{QueuedProbe}
use Rattle.probe_queue.specs.declared.QueueRing.{QueueRing}
use Rattle.probe_queue.specs.Queue.{choose, place}
use Rattle.limits.specs.Refusals.{wrong_room}
use Rattle.monitor.specs.declared.Monitor.{Monitor}
use Rattle.monitor.specs.declared.Summary.{Summary}
use Rattle.monitor.specs.Refusals.{refusal_of, refusal_of_sent, served, misplaced, passing}
use Rattle.monitor.specs.Operations.{ascending, least, runs, standing, starts}

-- the monitor's ring, or an empty one
unfoldable pub ring_if : Bool → Monitor → QueueRing
ring_if serves m = choose serves m.ring (record { head = 0; len = 0 })

-- the ring to look for a sequence that is not below: none where sequences are not known to ascend
unfoldable pub near_if : Monitor → QueueRing → QueueRing
near_if m ring = record { head = ring.head; len = choose (ascending m) ring.len 0 }

-- the ring to look for the reply's sequence
unfoldable pub search_in : Monitor → QueueRing → ℕ → QueueRing
search_in m ring below = record { head = ring.head; len = choose (ascending m) (least (below + 1) ring.len) ring.len }

-- how many probes a search pops, from where the first of the sequence and a marked one were found
unfoldable pub taken_of : QueueRing → ℕ → ℕ → ℕ
taken_of search first marked = choose (ltb marked search.len) (first + 1) 0

-- whether a reply is served while transmitting
unfoldable pub hearing : Bool → Monitor → ℕ → Bool
hearing go m room = served go (refusal_of m room) && m.transmitting

-- whether `sent` queues a probe
abbrev pub queueing : Bool → Monitor → ℕ → ℕ → Bool
queueing go m room time = served go (refusal_of_sent m room time) && ltb 0 m.timeout

-- where a new probe is stored
unfoldable pub back_of : Bool → Monitor → ℕ → ℕ → ℕ
back_of go m room time = choose (queueing go m room time) (place m.ring m.ring.len) room

-- the probe that is stored
unfoldable pub queued_probe_of : Monitor → ℕ → ℕ → QueuedProbe
queued_probe_of m sequence time = record { sequence = sequence; deadline = choose (passing m time) 0 (time + m.timeout); mark = 1 }

-- the monitor after `sent`
unfoldable pub queued_by : Bool → Monitor → ℕ → ℕ → ℕ → Monitor
queued_by go m room sequence time =
    choose (served go (refusal_of_sent m room time))
    (choose (ltb 0 m.timeout)
    (record { summary = m.summary; timeout = m.timeout; transmitting = true; ring = record { head = m.ring.head; len = m.ring.len + 1 }; run = runs m sequence; latest = sequence })
    (starts m))
    m

-- the monitor after pops, where they were made
abbrev pub settled : Bool → Monitor → Summary → QueueRing → Monitor
settled serves m s rest = choose serves (standing m s rest) m

-- the deadline, from the front record
unfoldable pub deadline_at : Monitor → ℕ → QueuedProbe → Result (Option ℕ) ℕ
deadline_at m room probe = choose (misplaced m room) (Err wrong_room) (choose (eqb m.ring.len 0) (Ok None) (Ok (Some probe.deadline)))
