-- A link whose host makes each call with the monitor beside the ledger or without it, and calls the monitor alone as it likes. Here: what each such call
-- does, by what the calls of a link and of a monitor do; and which calls the ledger and the monitor were served.
-- Assumes nothing.
use Rattle.monitor.specs.declared.Monitor.{Monitor}
use Rattle.std.specs.Prelude.{Bool, cond, List, [], ◌∷◌, ℕ, zero, suc, Option, Some, None}
use Rattle.limits.specs.Limits.{capacity}
use Rattle.call_types.specs.declared.Call.{Call}
use Rattle.call_types.specs.declared.Call.TheVariants.{Sent, Accept, Observe, Advance, Idle}
use Rattle.probe_queue.specs.declared.QueuedProbe.{QueuedProbe}
use Rattle.monitor.specs.Operations.{MonitorStand}
use Rattle.monitor_model.specs.Playing as monitor
use Rattle.history.specs.Given.{packet_of}
use Rattle.history.specs.Ledger.{unique?, events}
use Rattle.link_steps.specs.Steps.{LinkStand, refuses, after, kept_if}

-- a call of the host: of the link with its monitor, of the ledger without it, or of the monitor alone
pub data MixedCall : Type 0 where
  watched : Call → MixedCall
  plain : Call → MixedCall
  alone : monitor.Call → MixedCall

-- ---- what a call does

-- the ledger with its rooms, as a link that has no monitor
abbrev pub unwatched : LinkStand → LinkStand
unwatched k = record { link = record { ledger = k.link.ledger; watch = None }; rooms = k.rooms; queue = [] }

-- a ledger with its rooms beside the monitor and the queue of a link
abbrev pub beside : (ledger link : LinkStand) → LinkStand
beside l k = record { link = record { ledger = l.link.ledger; watch = k.link.watch }; rooms = l.rooms; queue = k.queue }

-- the link with its monitor and queue as a call of the monitor alone left them
abbrev pub with_monitor : LinkStand → MonitorStand → LinkStand
with_monitor k x = record { link = record { ledger = k.link.ledger; watch = Some x.monitor }; rooms = k.rooms; queue = x.room }

-- the number of a call of the monitor alone; without a monitor there is nothing to call
abbrev pub alone_number : Option Monitor → List QueuedProbe → monitor.Call → ℕ
alone_number None queue c = 0
alone_number (Some m) queue c = (monitor.play_ring c (record { monitor = m; room = queue })).number

-- what it leaves, likewise
abbrev pub alone_leaves : Option Monitor → LinkStand → monitor.Call → LinkStand
alone_leaves None k c = record { link = record { ledger = k.link.ledger; watch = None }; rooms = k.rooms; queue = k.queue }
alone_leaves (Some m) k c = with_monitor k (monitor.play_ring c (record { monitor = m; room = k.queue })).stand

-- the number of a call, 0 where it is served
unfoldable pub number_of : LinkStand → MixedCall → ℕ
number_of k (watched c) = refuses k c
number_of k (plain c) = refuses (unwatched k) c
number_of k (alone c) = alone_number k.link.watch k.queue c

-- what it leaves: a call without the monitor leaves monitor and queue as they were
unfoldable pub leaves : LinkStand → MixedCall → LinkStand
leaves k (watched c) = after k c
leaves k (plain c) = beside (after (unwatched k) c) k
leaves k (alone c) = alone_leaves k.link.watch k c

-- calls one after the other, newest first, each given what the last one left
unfoldable pub mixed_played : LinkStand → List MixedCall → LinkStand
mixed_played k [] = k
mixed_played k (c ∷ cs) = leaves (mixed_played k cs) c

-- ---- what each part was served, newest first

-- the ledger's calls, with this one where its number is 0
abbrev pub ledger_kept : ℕ → MixedCall → List Call → List Call
ledger_kept n (watched c) h = kept_if n c h
ledger_kept n (plain c) h = kept_if n c h
ledger_kept n (alone c) h = h

-- the calls that the ledger was served, with the monitor or without it
unfoldable pub ledger_served : LinkStand → List MixedCall → List Call
ledger_served k [] = []
ledger_served k (c ∷ cs) = ledger_kept (number_of (mixed_played k cs) c) c (ledger_served k cs)

-- what a served call of the link is to its monitor, after the ledger's served calls h: of the replies only a unique one
abbrev pub heard : List Call → Call → List monitor.Call → List monitor.Call
heard h (Sent s) ops = monitor.sending s.sequence s.packet.time ∷ ops
heard h (Accept a) ops = cond (unique? capacity a.key (packet_of a.pending) (events capacity h)) (monitor.replying a.key.sender ∷ ops) ops
heard h (Observe o) ops = ops
heard h (Advance t) ops = monitor.advancing t ∷ ops
heard h Idle ops = monitor.idling ∷ ops

-- the monitor's calls, with those of this one where its number is 0
abbrev pub monitor_kept : ℕ → List Call → MixedCall → List monitor.Call → List monitor.Call
monitor_kept zero h (watched c) ops = heard h c ops
monitor_kept zero h (plain c) ops = ops
monitor_kept zero h (alone c) ops = c ∷ ops
monitor_kept (suc n) h c ops = ops

-- the calls that the monitor was served, by calls of the link with it and by its own
unfoldable pub monitor_served : LinkStand → List MixedCall → List monitor.Call
monitor_served k [] = []
monitor_served k (c ∷ cs) = monitor_kept (number_of (mixed_played k cs) c) (ledger_served k cs) c (monitor_served k cs)
