-- One record of a log on a link, in parts: the ledger's part, and which of the monitor's calls goes on, with what. log_play proves that the parts
-- in a row are the step of link_steps. Assumes nothing.
use Rattle.ledger_steps.specs.declared.Accepted.{Accepted}
use Rattle.std.specs.Prelude.{Bool, true, false, ◌&&◌, List, ℕ, eqb, Option, Some, None, Result}
use Rattle.limits.specs.Limits.{capacity}
use Rattle.call_types.specs.declared.Call.{Call}
use Rattle.call_types.specs.declared.Call.TheVariants as call
use Rattle.ledger_state.specs.declared.Ledger.{Ledger}
use Rattle.ledger_steps.specs.Rooms.{Rooms}
use Rattle.ledger_steps.specs.Calls.{number, accept_number, SentResult, AcceptResult, ObserveResult, sent_to, accept_to, observe_to}
use Rattle.monitor.specs.declared.Monitor.{Monitor}
use Rattle.monitor.specs.Operations as monitor
use Rattle.record_parts.specs.Fits.{U32, ObservationFits}
use Rattle.link_steps.specs.Steps.{watch_refuses_sent, watch_refuses, was_served, ledger_of, was_unique, ledger_of_accept}
use Rattle.log_play_parts.specs.declared.Part.{Part}

-- ---- a record

-- what a record holds of a call, so that nothing of it is lost in words: its numbers fit their types, and an estimate's scale has six bits
abbrev pub CallFits : Call → Type 0
CallFits (call.Sent s) = Unit
CallFits (call.Accept a) = U32 a.key.reflector
CallFits (call.Observe o) = ObservationFits o
CallFits (call.Advance t) = Unit
CallFits call.Idle = Unit

-- the same of a record, or of none
abbrev pub ReadFits : Option Call → Type 0
ReadFits None = Unit
ReadFits (Some c) = CallFits c

-- ---- the ledger's part

-- the rooms of a ledger, of these five
abbrev pub rooms_of : List (List ℕ) → List (List ℕ) → List (List ℕ) → List ℕ → List (List ℕ) → Rooms
rooms_of keys slots probes offsets links = record { keys = keys; slots = slots; probes = probes; offsets = offsets; links = links }

-- why the monitor refuses a record, with a queue of this size, or 0
abbrev pub other_of : Option Monitor → Option Call → ℕ → ℕ
other_of w None room = 0
other_of w (Some (call.Sent s)) room = watch_refuses_sent w room s
other_of w (Some (call.Accept a)) room = watch_refuses w room
other_of w (Some (call.Observe o)) room = 0
other_of w (Some (call.Advance t)) room = watch_refuses w room
other_of w (Some call.Idle) room = watch_refuses w capacity

-- why the record is refused or 0, and whether the monitor's call goes on
abbrev pub part_with : ℕ → Bool → Part
part_with n go = record { refused = n; go = go }

-- `sent`: the monitor's goes on where the ledger's was served
abbrev pub sent_part : Result Ledger ℕ → Part
sent_part a = part_with (number a) (was_served a)

-- `accept`: where the reply was unique
abbrev pub accept_part : Result (Ledger × Accepted) ℕ → Part
accept_part a = part_with (accept_number a) (was_unique a)

-- `observe`: the monitor has none
abbrev pub observe_part : Result Ledger ℕ → Part
observe_part a = part_with (number a) false

-- a part with the ledger and the rooms that it left
pub record Parted : Type 0 where
  pub part : Part
  pub ledger : Ledger
  pub rooms : Rooms

-- the record above, made of its parts in their order
abbrev pub parted : Part → Ledger → Rooms → Parted
parted p l rooms = record { part = p; ledger = l; rooms = rooms }

-- by what the ledger's call gave
abbrev pub by_sent : Ledger → Rooms → SentResult → Parted
by_sent l r x = parted (sent_part x.answer) (ledger_of l x.answer) (record { keys = r.keys; slots = r.slots; probes = x.probes; offsets = r.offsets; links = x.links })

-- likewise
abbrev pub by_accept : Ledger → Rooms → AcceptResult → Parted
by_accept l r x = parted (accept_part x.answer) (ledger_of_accept l x.answer) (record { keys = x.keys; slots = x.slots; probes = x.probes; offsets = r.offsets; links = x.links })

-- likewise
abbrev pub by_observe : Ledger → Rooms → ObserveResult → Parted
by_observe l r x = parted (observe_part x.answer) (ledger_of l x.answer) (record { keys = r.keys; slots = x.slots; probes = r.probes; offsets = x.offsets; links = x.links })

-- a call, with the monitor's refusal: a call that the monitor refuses changes no room
abbrev pub call_part : ℕ → Ledger → Rooms → Call → Parted
call_part other l r (call.Sent s) = by_sent l r (sent_to other l r.probes r.links s)
call_part other l r (call.Accept a) = by_accept l r (accept_to other l r.keys r.slots r.probes r.links a)
call_part other l r (call.Observe o) = by_observe l r (observe_to l r.keys r.slots r.offsets r.links o)
call_part other l r (call.Advance t) = parted (part_with other true) l r
call_part other l r call.Idle = parted (part_with other false) l r

-- a record: nothing where the log has none
abbrev pub part_of : ℕ → Ledger → Rooms → Option Call → Parted
part_of other l r None = parted (part_with 0 false) l r
part_of other l r (Some c) = call_part other l r c

-- ---- the monitor's part

-- the link's monitor; a fresh one where it has none, with which nothing goes on
abbrev pub monitor_of : Option Monitor → Monitor
monitor_of None = monitor.fresh 1 0
monitor_of (Some m) = m

-- whether the link has a monitor
abbrev pub is_watched : Option Monitor → Bool
is_watched None = false
is_watched (Some m) = true

-- 0 no record, 1 sent, 2 accept, 3 observe, 4 advance, 5 idle
abbrev pub kind_of : Option Call → ℕ
kind_of None = 0
kind_of (Some (call.Sent s)) = 1
kind_of (Some (call.Accept a)) = 2
kind_of (Some (call.Observe o)) = 3
kind_of (Some (call.Advance t)) = 4
kind_of (Some call.Idle) = 5

-- whether the monitor's call of this kind goes on
abbrev pub goes_on : ℕ → Option Monitor → Option Call → Bool → Bool
goes_on kind w r go = is_watched w && eqb (kind_of r) kind && go

-- the sequence that the monitor is told
abbrev pub sequence_of : Option Call → ℕ
sequence_of None = 0
sequence_of (Some (call.Sent s)) = s.sequence
sequence_of (Some (call.Accept a)) = a.key.sender
sequence_of (Some (call.Observe o)) = 0
sequence_of (Some (call.Advance t)) = 0
sequence_of (Some call.Idle) = 0

-- the time that the monitor is told
abbrev pub time_of : Option Call → ℕ
time_of None = 0
time_of (Some (call.Sent s)) = s.packet.time
time_of (Some (call.Accept a)) = 0
time_of (Some (call.Observe o)) = 0
time_of (Some (call.Advance t)) = t
time_of (Some call.Idle) = 0

-- the link's monitor afterwards, if it has one
abbrev pub watch_after : Option Monitor → Monitor → Option Monitor
watch_after None m = None
watch_after (Some before) m = Some m
