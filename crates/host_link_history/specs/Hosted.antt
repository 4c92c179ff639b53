-- A link as a host holds it: the words of the ledger, those of the monitor where it has one, the rooms and the queue. And the host's calls, as numbers,
-- each given what the last one left: the definitions are those that the contracts of the exported calls cite.
-- Assumes nothing.
use Rattle.monitor.specs.declared.Monitor.{Monitor}
use Rattle.std.specs.Prelude.{List, [], ◌∷◌, ℕ, ◌<◌, ◌^◌, get_or, Option, Some, None}
use Rattle.call_types.specs.declared.Call.{Call}
use Rattle.call_types.specs.declared.Call.TheVariants.{Sent, Accept, Observe, Advance, Idle}
use Rattle.probe_queue.specs.declared.QueuedProbe.{QueuedProbe}
use Rattle.ledger_steps.specs.Rooms.{Rooms}
use Rattle.link_steps.specs.Steps.{LinkStand}
use Rattle.link_history.specs.Fresh.{Watching, Making}
use Rattle.link_history.specs.Fresh as history
use Rattle.host_calls.specs.Calls.{sent_probe_of, reply_of}
use Rattle.host_ledger.specs.Words.{ledger_at}
use Rattle.host_fresh.specs.Fresh.{fresh_of}
use Rattle.host_sent_words.specs.Sent.{SentLeft}
use Rattle.host_sent.specs.Sent.{sent_of}
use Rattle.host_accept_words.specs.Accept.{AcceptLeft, accept_of}
use Rattle.host_observation.specs.Observation.{observation_at}
use Rattle.host_observe_words.specs.Observe as observed
use Rattle.host_monitor_words.specs.Words.{monitor_at}
use Rattle.host_monitor.specs.Calls as monitor
use Rattle.host_watched_sent.specs.Calls as watched_sent
use Rattle.host_watched_accept_words.specs.Calls as watched_accept
use Rattle.host_watched_accept.specs.Calls.{watched_accept_to}

-- without a monitor, or with the words of one
pub data HostWatch : Type 0 where
  alone : HostWatch
  watching : List ℕ → HostWatch

-- the words of the ledger and of the monitor, the five rooms of the ledger, and the room of the queue
pub record HostLink : Type 0 where
  pub ledger : List ℕ
  pub watch : HostWatch
  pub rooms : Rooms
  pub queue : List QueuedProbe

-- the record above, made of its parts in their order
abbrev pub host_link : List ℕ → HostWatch → Rooms → List QueuedProbe → HostLink
host_link ledger watch rooms queue = record { ledger = ledger; watch = watch; rooms = rooms; queue = queue }

-- the monitor that the words say, or none
abbrev pub watch_said : HostWatch → Option Monitor
watch_said alone = None
watch_said (watching words) = Some (monitor_at words)

-- the link that the words say, with the rooms and the queue as they are
abbrev pub said : HostLink → LinkStand
said x = record { link = record { ledger = ledger_at x.ledger; watch = watch_said x.watch }; rooms = x.rooms; queue = x.queue }

-- a call, as the numbers that the host hands over
pub data HostCall : Type 0 where
  sent : (sequence ordinal train time tag : ℕ) → HostCall
  accept : (sender reflector t3 pending time tag : ℕ) → HostCall
  observe : (words : List ℕ) → HostCall
  advance : ℕ → HostCall
  idle : HostCall

-- the call that the numbers say, as the library is told it
abbrev pub told : HostCall → Call
told (sent sequence ordinal train time tag) = Sent (sent_probe_of sequence ordinal train time tag)
told (accept sender reflector t3 pending time tag) = Accept (reply_of sender reflector t3 pending time tag)
told (observe words) = Observe (observation_at words)
told (advance time) = Advance time
told idle = Idle

-- its number, and what it leaves
pub record HostStep : Type 0 where
  pub number : ℕ
  pub next : HostLink

-- the record above, made of its parts in their order
abbrev pub step : ℕ → HostLink → HostStep
step n x = record { number = n; next = x }

-- the rooms after a `sent`: only the probes and the links may differ
abbrev pub sent_rooms : Rooms → (probes links : List (List ℕ)) → Rooms
sent_rooms r probes links = record { keys = r.keys; slots = r.slots; probes = probes; offsets = r.offsets; links = links }

-- the rooms after an `accept`: all but the offsets may differ
abbrev pub accept_rooms : Rooms → (keys slots probes links : List (List ℕ)) → Rooms
accept_rooms r keys slots probes links = record { keys = keys; slots = slots; probes = probes; offsets = r.offsets; links = links }

-- the link after `ambrulicciu_sent`, which has no monitor: the queue stays
abbrev pub left_sent : HostLink → SentLeft → HostStep
left_sent x r = step r.number (host_link r.ledger alone (sent_rooms x.rooms r.probes r.links) x.queue)

-- the link after `ambrulicciu_watched_sent`, with the monitor's words and the queue
abbrev pub left_watched_sent : HostLink → watched_sent.Left → HostStep
left_watched_sent x r = step r.number (host_link r.ledger (watching r.monitor) (sent_rooms x.rooms r.probes r.links) r.queue)

-- `ambrulicciu_sent`, and `ambrulicciu_watched_sent` where there is a monitor
abbrev pub sends : HostWatch → HostLink → (sequence ordinal train time tag : ℕ) → HostStep
sends alone x sequence ordinal train time tag = left_sent x (sent_of x.ledger x.rooms.probes x.rooms.links (sent_probe_of sequence ordinal train time tag))
sends (watching words) x sequence ordinal train time tag =
    left_watched_sent x (watched_sent.watched_sent_to x.ledger words x.rooms.probes x.rooms.links x.queue sequence ordinal train time tag)

-- the link after `ambrulicciu_accept`, which has no monitor: the queue stays
abbrev pub left_accept : HostLink → AcceptLeft → HostStep
left_accept x r = step r.number (host_link r.ledger alone (accept_rooms x.rooms r.keys r.slots r.probes r.links) x.queue)

-- the link after `ambrulicciu_watched_accept`, with the monitor's words and the queue
abbrev pub left_watched_accept : HostLink → watched_accept.Left → HostStep
left_watched_accept x r = step r.number (host_link r.ledger (watching r.monitor) (accept_rooms x.rooms r.keys r.slots r.probes r.links) r.queue)

-- `ambrulicciu_accept`, and `ambrulicciu_watched_accept`; the words of its answer stand in no link
abbrev pub accepts : HostWatch → HostLink → (sender reflector t3 pending time tag : ℕ) → HostStep
accepts alone x sender reflector t3 pending time tag =
    left_accept x (accept_of x.ledger x.rooms.keys x.rooms.slots x.rooms.probes x.rooms.links [] (reply_of sender reflector t3 pending time tag))
accepts (watching words) x sender reflector t3 pending time tag =
    left_watched_accept x
    (watched_accept_to x.ledger words x.rooms.keys x.rooms.slots x.rooms.probes x.rooms.links x.queue sender reflector t3 pending time tag [])

-- the rooms after an `observe`: only slots, offsets and links may differ
abbrev pub observe_rooms : Rooms → List (List ℕ) → List ℕ → List (List ℕ) → Rooms
observe_rooms r slots offsets links = record { keys = r.keys; slots = slots; probes = r.probes; offsets = offsets; links = links }

-- the link after `ambrulicciu_observe`: the monitor and the queue stay
abbrev pub left_observe : HostLink → observed.Left → HostStep
left_observe x r = step r.number (host_link r.ledger x.watch (observe_rooms x.rooms r.slots r.offsets r.links) x.queue)

-- `ambrulicciu_observe`, with a monitor and without
abbrev pub observes : HostLink → List ℕ → HostStep
observes x words = left_observe x (observed.observe_leaves x.ledger x.rooms.keys x.rooms.slots x.rooms.offsets x.rooms.links words)

-- `ambrulicciu_monitor_advance`; without a monitor there is nothing to call, and the number is 0
abbrev pub advances : HostWatch → HostLink → ℕ → HostStep
advances alone x time = step 0 x
advances (watching words) x time =
    step (monitor.advance_to words x.queue time).number
    (host_link x.ledger (watching (monitor.advance_to words x.queue time).words) x.rooms (monitor.advance_to words x.queue time).queue)

-- `ambrulicciu_monitor_idle`; without a monitor likewise
abbrev pub idles : HostWatch → HostLink → HostStep
idles alone x = step 0 x
idles (watching words) x = step (monitor.idle_to words).number (host_link x.ledger (watching (monitor.idle_to words).words) x.rooms x.queue)

-- one call of any kind, on the link as it stands
unfoldable pub play_host : HostLink → HostCall → HostStep
play_host x (sent sequence ordinal train time tag) = sends x.watch x sequence ordinal train time tag
play_host x (accept sender reflector t3 pending time tag) = accepts x.watch x sender reflector t3 pending time tag
play_host x (observe words) = observes x words
play_host x (advance time) = advances x.watch x time
play_host x idle = idles x.watch x

-- calls one after the other, newest first
unfoldable pub host_played : HostLink → List HostCall → HostLink
host_played x [] = x
host_played x (c ∷ cs) = (play_host (host_played x cs) c).next

-- the numbers fit their types, which a host cannot break
abbrev pub Typed : HostCall → Type 0
Typed (sent sequence ordinal train time tag) = sequence < 2 ^ 32
Typed (accept sender reflector t3 pending time tag) = reflector < 2 ^ 32
Typed (observe words) = (i : ℕ) → get_or words i 0 < 2 ^ 32
Typed (advance time) = Unit {0}
Typed idle = Unit {0}

-- the numbers of every call
abbrev pub AllTyped : List HostCall → Type 0
AllTyped [] = Unit {0}
AllTyped (c ∷ cs) = Typed c × AllTyped cs

-- ---- a fresh link: `ambrulicciu_ledger_fresh` and `ambrulicciu_monitor_fresh`, over any rooms

-- `ambrulicciu_monitor_fresh` with this threshold and timeout, or no monitor
abbrev pub fresh_watch : Watching → HostWatch
fresh_watch history.alone = alone
fresh_watch (history.watching threshold timeout) = watching (monitor.fresh_to threshold timeout).words

-- the words of a fresh ledger and monitor; rooms and queue hold whatever they held
abbrev pub host_fresh : Making → HostLink
host_fresh m = host_link (fresh_of m.copies m.secret).ledger (fresh_watch m.monitor) m.rooms m.queue

-- the threshold of a monitor is a u16; without a monitor there is none
abbrev pub ThresholdFits : Watching → Type 0
ThresholdFits history.alone = Unit {0}
ThresholdFits (history.watching threshold timeout) = threshold < 2 ^ 16

-- besides the threshold, each word of the hash is a u32
pub record HostFits (m : Making) : Type 0 where
  pub threshold : ThresholdFits m.monitor
  pub secret : (i : ℕ) → get_or m.secret i 0 < 2 ^ 32
