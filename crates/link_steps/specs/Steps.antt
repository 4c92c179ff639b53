-- A link is a ledger with its rooms and, where it has one, a monitor with the room of its queue. Here: what each call of the host does to it.
-- With a monitor, `sent` and `accept` drive it. A refusal "returns its number only and changes nothing": of both parts.
-- Assumes nothing.
use Rattle.std.specs.Prelude.{Bool, true, false, List, [], ◌∷◌, ℕ, zero, suc, ◌+◌, eqb, length, Option, Some, None, Result, Ok, Err}
use Rattle.limits.specs.Limits.{capacity}
use Rattle.call_types.specs.declared.SentProbe.{SentProbe}
use Rattle.call_types.specs.declared.Reply.{Reply}
use Rattle.call_types.specs.declared.ReplyObservation.{ReplyObservation}
use Rattle.call_types.specs.declared.Call.{Call}
use Rattle.call_types.specs.declared.Call.TheVariants.{Sent, Accept, Observe, Advance, Idle}
use Rattle.probe_queue.specs.declared.QueuedProbe.{QueuedProbe}
use Rattle.monitor.specs.declared.Monitor.{Monitor}
use Rattle.monitor.specs.Refusals as monitor
use Rattle.monitor.specs.Operations.{MonitorStand, sent_if, reply_if, advance_if, idle_on}
use Rattle.ledger_state.specs.declared.Ledger.{Ledger}
use Rattle.ledger_steps.specs.declared.Accepted.{Accepted}
use Rattle.ledger_steps.specs.declared.Accepted.TheVariants as accepted
use Rattle.ledger_steps.specs.Rooms.{Rooms}
use Rattle.ledger_steps.specs.Calls.{number, accept_number, SentResult, AcceptResult, ObserveResult, sent_to, accept_to, observe_to}
use Rattle.link_steps.specs.declared.Link.{Link}

-- a link with all of its rooms; without a monitor the queue is not looked at
pub record LinkStand : Type 0 where
  pub link : Link
  pub rooms : Rooms
  pub queue : List QueuedProbe

-- a monitor and the queue, as the monitor's operation left them
pub record Watched : Type 0 where
  pub watch : Option Monitor
  pub queue : List QueuedProbe

-- of a monitor that is there, with its room
abbrev pub watched : MonitorStand → Watched
watched s = record { watch = Some s.monitor; queue = s.room }

-- where there is no monitor the queue stays
abbrev pub unwatched : List QueuedProbe → Watched
unwatched queue = record { watch = None; queue = queue }

-- the record above, made of its parts in their order
abbrev pub standing : Ledger → Rooms → Watched → LinkStand
standing l r w = record { link = record { ledger = l; watch = w.watch }; rooms = r; queue = w.queue }

-- ---- the monitor's part

-- its refusal of `sent` with a room of this size, 0 where there is no monitor
abbrev pub watch_refuses_sent : Option Monitor → ℕ → SentProbe → ℕ
watch_refuses_sent None room s = 0
watch_refuses_sent (Some m) room s = monitor.refusal_of_sent m room s.packet.time

-- its refusal of any other call, likewise
abbrev pub watch_refuses : Option Monitor → ℕ → ℕ
watch_refuses None room = 0
watch_refuses (Some m) room = monitor.refusal_of m room

-- what it does where the call goes on: at `sent`, with the probe's sequence and send time
abbrev pub watch_sent : Bool → Option Monitor → List QueuedProbe → SentProbe → Watched
watch_sent go None queue s = unwatched queue
watch_sent go (Some m) queue s = watched (sent_if go m queue s.sequence s.packet.time)

-- at a reply: its key's sender number is the sequence that the monitor hears
abbrev pub watch_reply : Bool → Option Monitor → List QueuedProbe → Reply → Watched
watch_reply go None queue a = unwatched queue
watch_reply go (Some m) queue a = watched (reply_if go m queue a.key.sender)

-- "Without a monitor kinds 3 and 4 do nothing."
abbrev pub watch_advance : Option Monitor → List QueuedProbe → ℕ → Watched
watch_advance None queue time = unwatched queue
watch_advance (Some m) queue time = watched (advance_if true m queue time)

-- `idle` where it is served; a refusal changes nothing
abbrev pub idle_by : Bool → Monitor → Monitor
idle_by true m = idle_on m
idle_by false m = m

-- `idle` is lent no room: it is tested as with one of 4,096, and the queue's room stays
abbrev pub watch_idle : Option Monitor → List QueuedProbe → Watched
watch_idle None queue = unwatched queue
watch_idle (Some m) queue = record { watch = Some (idle_by (eqb (monitor.refusal_of m capacity) 0) m); queue = queue }

-- ---- `sent`: the ledger's part with the monitor's refusal, then the monitor's where it was served

-- the call was served
abbrev pub was_served : Result Ledger ℕ → Bool
was_served (Ok l) = true
was_served (Err n) = false

-- the ledger of an answer: a refusal leaves it as it was
abbrev pub ledger_of : Ledger → Result Ledger ℕ → Ledger
ledger_of l (Ok next) = next
ledger_of l (Err n) = l

-- the ledger's answer and the rooms that it is lent; the monitor's refusal is one of its own
abbrev pub sent_result : LinkStand → SentProbe → SentResult
sent_result k s = sent_to (watch_refuses_sent k.link.watch (length k.queue) s) k.link.ledger k.rooms.probes k.rooms.links s

-- the link after it; keys, slots and offsets are not lent and stay
abbrev pub sent_leaves : LinkStand → SentProbe → SentResult → LinkStand
sent_leaves k s r =
    standing (ledger_of k.link.ledger r.answer)
    (record { keys = k.rooms.keys; slots = k.rooms.slots; probes = r.probes; offsets = k.rooms.offsets; links = r.links })
    (watch_sent (was_served r.answer) k.link.watch k.queue s)

-- ---- `accept`: a unique reply goes to the monitor

-- neither duplicate nor unknown
abbrev pub is_unique : Accepted → Bool
is_unique accepted.Duplicate = false
is_unique accepted.Unknown = false
is_unique (accepted.Unique p o t) = true

-- the call was served, and its reply is unique
abbrev pub was_unique : Result (Ledger × Accepted) ℕ → Bool
was_unique (Ok (l, a)) = is_unique a
was_unique (Err n) = false

-- the ledger of an answer, likewise: a refusal leaves it as it was
abbrev pub ledger_of_accept : Ledger → Result (Ledger × Accepted) ℕ → Ledger
ledger_of_accept l (Ok (next, a)) = next
ledger_of_accept l (Err n) = l

-- the ledger's answer and the rooms that it is lent; the monitor's refusal is one of its own
abbrev pub accept_result : LinkStand → Reply → AcceptResult
accept_result k a =
    accept_to (watch_refuses k.link.watch (length k.queue)) k.link.ledger k.rooms.keys k.rooms.slots k.rooms.probes k.rooms.links a

-- the link after it; the offsets are not lent and stay
abbrev pub accept_leaves : LinkStand → Reply → AcceptResult → LinkStand
accept_leaves k a r =
    standing (ledger_of_accept k.link.ledger r.answer)
    (record { keys = r.keys; slots = r.slots; probes = r.probes; offsets = k.rooms.offsets; links = r.links })
    (watch_reply (was_unique r.answer) k.link.watch k.queue a)

-- ---- `observe`: the ledger's alone

-- the ledger's answer and the rooms that it is lent; the monitor refuses nothing
abbrev pub observe_result : LinkStand → ReplyObservation → ObserveResult
observe_result k o = observe_to k.link.ledger k.rooms.keys k.rooms.slots k.rooms.offsets k.rooms.links o

-- the link after it; keys, probes, monitor and queue stay
abbrev pub observe_leaves : LinkStand → ObserveResult → LinkStand
observe_leaves k r =
    standing (ledger_of k.link.ledger r.answer)
    (record { keys = k.rooms.keys; slots = r.slots; probes = k.rooms.probes; offsets = r.offsets; links = r.links })
    (record { watch = k.link.watch; queue = k.queue })

-- ---- a call

-- the number of its refusal, 0 where it is served
unfoldable pub refuses : LinkStand → Call → ℕ
refuses k (Sent s) = number (sent_result k s).answer
refuses k (Accept a) = accept_number (accept_result k a).answer
refuses k (Observe o) = number (observe_result k o).answer
refuses k (Advance t) = watch_refuses k.link.watch (length k.queue)
refuses k Idle = watch_refuses k.link.watch capacity

-- what it leaves
unfoldable pub after : LinkStand → Call → LinkStand
after k (Sent s) = sent_leaves k s (sent_result k s)
after k (Accept a) = accept_leaves k a (accept_result k a)
after k (Observe o) = observe_leaves k (observe_result k o)
after k (Advance t) = standing k.link.ledger k.rooms (watch_advance k.link.watch k.queue t)
after k Idle = standing k.link.ledger k.rooms (watch_idle k.link.watch k.queue)

-- ---- calls one after the other, newest first: each is given what the last one left

-- the link after all of them; a refused one leaves it as it was
unfoldable pub played : LinkStand → List Call → LinkStand
played k [] = k
played k (c ∷ cs) = after (played k cs) c

-- the call before these where its number is 0, and else these alone
abbrev pub kept_if : ℕ → Call → List Call → List Call
kept_if zero c cs = c ∷ cs
kept_if (suc n) c cs = cs

-- the calls that were served, newest first
unfoldable pub served : LinkStand → List Call → List Call
served k [] = []
served k (c ∷ cs) = kept_if (refuses (played k cs) c) c (served k cs)

-- one more where the number is a refusal's
abbrev pub one_if : ℕ → ℕ → ℕ
one_if zero n = n
one_if (suc k) n = n + 1

-- how many were turned away: refused, whatever the number
unfoldable pub turned_away : LinkStand → List Call → ℕ
turned_away k [] = 0
turned_away k (c ∷ cs) = one_if (refuses (played k cs) c) (turned_away k cs)
