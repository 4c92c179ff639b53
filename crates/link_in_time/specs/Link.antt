-- The calls of a link with a monitor, as its monitor meets them.
-- Assumes nothing.
use Rattle.monitor.specs.declared.Monitor.{Monitor}
use Rattle.std.specs.Prelude.{cond, List, Some, None, Option}
use Rattle.call_types.specs.declared.Call.{Call}
use Rattle.call_types.specs.declared.Call.TheVariants.{Sent, Accept, Observe, Advance, Idle}
use Rattle.probe_queue.specs.declared.QueuedProbe.{QueuedProbe}
use Rattle.monitor_model.specs.Plain.{new}
use Rattle.monitor_model.specs.Playing.{sending, replying, advancing, idling}
use Rattle.monitor_model.specs.Playing as monitor
use Rattle.monitor_in_time.specs.Calls.{Seen, Monitored}
use Rattle.monitor_in_time.specs.Core.{seen_plain, seen_stand}
use Rattle.link_steps.specs.Steps.{LinkStand, accept_result, was_unique, refuses, after}

-- the call of the monitor that a call makes: a reply where an accept is answered as unique, and none at an observe or any other accept
abbrev pub drives_of : LinkStand → Call → Option monitor.Call
drives_of k (Sent s) = Some (sending s.sequence s.packet.time)
drives_of k (Accept a) = cond (was_unique (accept_result k a).answer) (Some (replying a.key.sender)) None
drives_of k (Observe o) = None
drives_of k (Advance time) = Some (advancing time)
drives_of k Idle = Some idling

-- what is seen of a link's monitor; a link made with one always has it, and without one this says nothing
abbrev pub seen_watch : Option Monitor → List QueuedProbe → Seen
seen_watch None queue = seen_plain (new 0 0)
seen_watch (Some m) queue = seen_stand (record { monitor = m; room = queue })

-- the calls of a link: `sent` and `accept` with the monitor beside, `observe`, `advance` and `idle`
abbrev pub link : Monitored Call LinkStand
link = record { number = refuses; after = after; drives = drives_of; seen = λ k. seen_watch k.link.watch k.queue }
