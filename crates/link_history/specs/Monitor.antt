-- The monitor of a link, from the plain list of its served calls, newest first: the plain model of crate monitor_model, without ring or room.
-- With a monitor, `sent` and `accept` drive it: a unique reply is a reply to the monitor.
-- Assumes nothing.
use Rattle.std.specs.Prelude.{◌≡◌, cond, List, [], ◌∷◌, ℕ, Option, Some, None}
use Rattle.limits.specs.Limits.{capacity}
use Rattle.call_types.specs.declared.Call.{Call}
use Rattle.call_types.specs.declared.Call.TheVariants.{Sent, Accept, Observe, Advance, Idle}
use Rattle.probe_queue.specs.declared.QueuedProbe.{QueuedProbe}
use Rattle.monitor.specs.declared.Monitor.{Monitor}
use Rattle.monitor.specs.Answers.{deadline_of}
use Rattle.monitor_model.specs.Plain.{Plain, new, sent, reply, advance, idle, deadline}
use Rattle.monitor_model.specs.Playing.{Shows}
use Rattle.history.specs.Given.{packet_of}
use Rattle.history.specs.Ledger.{unique?, events}
use Rattle.link_history.specs.Fresh.{Watching, alone, watching}

-- the plain monitor after the served calls
unfoldable pub monitor_from : (threshold timeout : ℕ) → List Call → Plain
monitor_from threshold timeout [] = new threshold timeout
monitor_from threshold timeout (Sent s ∷ h) = sent (monitor_from threshold timeout h) s.sequence s.packet.time
monitor_from threshold timeout (Accept a ∷ h) =
    cond (unique? capacity a.key (packet_of a.pending) (events capacity h)) (reply (monitor_from threshold timeout h) a.key.sender) (monitor_from threshold timeout h)
monitor_from threshold timeout (Observe o ∷ h) = monitor_from threshold timeout h
monitor_from threshold timeout (Advance t ∷ h) = advance (monitor_from threshold timeout h) t
monitor_from threshold timeout (Idle ∷ h) = idle (monitor_from threshold timeout h)

-- its summary, whether it is transmitting, its queued probes and its marks, and the deadline that it answers
pub record MonitorShows (m : Monitor) (queue : List QueuedProbe) (p : Plain) : Type 0 where
  pub state : Shows (record { monitor = m; room = queue }) p
  pub deadline_is : deadline_of m queue ≡ deadline p.probes

-- WHAT THE MONITOR OF A LINK SHOWS IS WHAT THE SERVED CALLS h CALL FOR; a link made without a monitor has none.
abbrev pub WatchShows : Watching → List Call → Option Monitor → List QueuedProbe → Type 0
WatchShows alone h None queue = Unit
WatchShows alone h (Some m) queue = ⊥
WatchShows (watching threshold timeout) h None queue = ⊥
WatchShows (watching threshold timeout) h (Some m) queue = MonitorShows m queue (monitor_from threshold timeout h)
