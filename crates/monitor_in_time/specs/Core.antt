-- The calls of the core's monitor, each given the monitor and the room that the last one left; and the same of the plain model.
-- Assumes nothing.
use Rattle.std.specs.Prelude.{List, map, ℕ, Some}
use Rattle.probe_queue.specs.declared.QueuedProbe.{QueuedProbe}
use Rattle.probe_queue.specs.Queue.{queued}
use Rattle.monitor.specs.Operations.{MonitorStand, fresh}
use Rattle.monitor_model.specs.Plain.{Plain}
use Rattle.monitor_model.specs.Playing.{Call, play_plain, play_ring, plain_probe_of}
use Rattle.monitor_in_time.specs.Calls.{Seen, Monitored}

-- what is seen of a plain monitor
abbrev pub seen_plain : Plain → Seen
seen_plain p = record { summary = p.summary; transmitting = p.transmitting; queued = p.probes }

-- the plain model's calls
abbrev pub plain : Monitored Call Plain
plain = record { number = λ p c. (play_plain c p).number; after = λ p c. (play_plain c p).plain; drives = λ p c. Some c; seen = seen_plain }

-- what is seen of the core's monitor with its room
abbrev pub seen_stand : MonitorStand → Seen
seen_stand x = record { summary = x.monitor.summary; transmitting = x.monitor.transmitting; queued = map plain_probe_of (queued x.room x.monitor.ring) }

-- the core's calls
abbrev pub core : Monitored Call MonitorStand
core = record { number = λ x c. (play_ring c x).number; after = λ x c. (play_ring c x).stand; drives = λ x c. Some c; seen = seen_stand }

-- a fresh monitor, with any room
abbrev pub fresh_stand : (threshold timeout : ℕ) → List QueuedProbe → MonitorStand
fresh_stand threshold timeout room = record { monitor = fresh threshold timeout; room = room }

-- any numbers are taken: the core asks for nothing
abbrev pub AnyCall : Call → Type 0
AnyCall c = Unit {0}
