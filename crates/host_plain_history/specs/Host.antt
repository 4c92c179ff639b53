-- The exported calls on one link's memory, one after the other, each given what the last one left; and which calls ledger and monitor were served.
-- `play` hands the memory of a link to the definition that the call's contract cites (`sent_of`, `accept_of`, ..) and puts what it leaves in its place.
-- Assumes nothing.
use Rattle.std.specs.Prelude.{◌≡◌, Bool, cond, List, [], ◌∷◌, ℕ, zero, suc, ◌<◌, ◌^◌, length, get_or, Option, None, Some}
use Rattle.limits.specs.Limits.{capacity}
use Rattle.chains.specs.Links.{Rows}
use Rattle.call_types.specs.declared.Call.{Call}
use Rattle.call_types.specs.declared.Call.TheVariants.{Sent, Accept, Observe}
use Rattle.probe_queue.specs.declared.QueuedProbe.{QueuedProbe}
use Rattle.monitor_model.specs.Playing as monitor
use Rattle.history.specs.Given.{packet_of}
use Rattle.history.specs.Ledger.{unique?, events}
use Rattle.host_calls.specs.Calls.{sent_probe_of, reply_of}
use Rattle.host_observation.specs.Observation.{observation_at}
use Rattle.host_fresh.specs.Fresh.{fresh_of}
use Rattle.host_sent.specs.Sent.{sent_of}
use Rattle.host_accept_words.specs.Accept.{accept_of}
use Rattle.host_observe_words.specs.Observe.{observe_leaves}
use Rattle.host_watched_sent.specs.Calls.{watched_sent_to}
use Rattle.host_watched_accept.specs.Calls.{watched_accept_to}
use Rattle.host_monitor.specs.Calls.{fresh_to, sent_to, reply_to, advance_to, idle_to}

-- all that a host lends for a link: the words of ledger and monitor, the five rooms of the ledger, the room of the queue
pub record Memory : Type 0 where
  pub ledger : List ℕ
  pub monitor : List ℕ
  pub keys : List (List ℕ)
  pub slots : List (List ℕ)
  pub probes : List (List ℕ)
  pub offsets : List ℕ
  pub links : List (List ℕ)
  pub queue : List QueuedProbe

-- an exported call, with the numbers that the host hands over; `watched` is with the monitor
pub data HostCall : Type 0 where
  sent watched_sent : (sequence ordinal train time tag : ℕ) → HostCall
  accept watched_accept : (sender reflector t3 pending time tag : ℕ) → HostCall
  observe : (words : List ℕ) → HostCall
  monitor_sent : (sequence time : ℕ) → HostCall
  monitor_reply : (sequence : ℕ) → HostCall
  monitor_advance : (time : ℕ) → HostCall
  monitor_idle : HostCall

-- ---- what a call returns and leaves

-- its number, and the memory then
pub record Step : Type 0 where
  pub number : ℕ
  pub memory : Memory

-- the memory with these words and rooms of the ledger
abbrev pub put : Memory → List ℕ → (keys slots probes : List (List ℕ)) → List ℕ → (links : List (List ℕ)) → Memory
put x ledger keys slots probes offsets links =
    record { ledger = ledger; monitor = x.monitor; keys = keys; slots = slots; probes = probes; offsets = offsets; links = links; queue = x.queue }

-- the memory with this monitor and queue
abbrev pub watching : Memory → List ℕ → List QueuedProbe → Memory
watching x words queue =
    record { ledger = x.ledger; monitor = words; keys = x.keys; slots = x.slots; probes = x.probes; offsets = x.offsets; links = x.links; queue = queue }

-- one call; what it is not lent stays, and the words of an answer stand in no link
unfoldable pub play : Memory → HostCall → Step
play x (sent sequence ordinal train time tag) =
    let r = sent_of x.ledger x.probes x.links (sent_probe_of sequence ordinal train time tag) in
    record { number = r.number; memory = put x r.ledger x.keys x.slots r.probes x.offsets r.links }
play x (watched_sent sequence ordinal train time tag) =
    let r = watched_sent_to x.ledger x.monitor x.probes x.links x.queue sequence ordinal train time tag in
    record { number = r.number; memory = watching (put x r.ledger x.keys x.slots r.probes x.offsets r.links) r.monitor r.queue }
play x (accept sender reflector t3 pending time tag) =
    let r = accept_of x.ledger x.keys x.slots x.probes x.links [] (reply_of sender reflector t3 pending time tag) in
    record { number = r.number; memory = put x r.ledger r.keys r.slots r.probes x.offsets r.links }
play x (watched_accept sender reflector t3 pending time tag) =
    let r = watched_accept_to x.ledger x.monitor x.keys x.slots x.probes x.links x.queue sender reflector t3 pending time tag [] in
    record { number = r.number; memory = watching (put x r.ledger r.keys r.slots r.probes x.offsets r.links) r.monitor r.queue }
play x (observe words) =
    let r = observe_leaves x.ledger x.keys x.slots x.offsets x.links words in
    record { number = r.number; memory = put x r.ledger x.keys r.slots x.probes r.offsets r.links }
play x (monitor_sent sequence time) =
    let r = sent_to x.monitor x.queue sequence time in record { number = r.number; memory = watching x r.words r.queue }
play x (monitor_reply sequence) = let r = reply_to x.monitor x.queue sequence in record { number = r.number; memory = watching x r.words r.queue }
play x (monitor_advance time) = let r = advance_to x.monitor x.queue time in record { number = r.number; memory = watching x r.words r.queue }
play x monitor_idle = let r = idle_to x.monitor in record { number = r.number; memory = watching x r.words x.queue }

-- calls one after the other, newest first
unfoldable pub after : Memory → List HostCall → Memory
after x [] = x
after x (c ∷ cs) = (play (after x cs) c).memory

-- ---- the calls that were served: those that returned 0, newest first

-- what the ledger is told, where the call is one of the ledger
abbrev pub told : HostCall → Option Call
told (sent sequence ordinal train time tag) = Some (Sent (sent_probe_of sequence ordinal train time tag))
told (watched_sent sequence ordinal train time tag) = Some (Sent (sent_probe_of sequence ordinal train time tag))
told (accept sender reflector t3 pending time tag) = Some (Accept (reply_of sender reflector t3 pending time tag))
told (watched_accept sender reflector t3 pending time tag) = Some (Accept (reply_of sender reflector t3 pending time tag))
told (observe words) = Some (Observe (observation_at words))
told (monitor_sent sequence time) = None
told (monitor_reply sequence) = None
told (monitor_advance time) = None
told monitor_idle = None

-- whether a reply is unique, after the ledger's served calls h: then a monitor hears it
abbrev pub is_heard : List Call → (sender reflector t3 pending time tag : ℕ) → Bool
is_heard h sender reflector t3 pending time tag =
    let a = reply_of sender reflector t3 pending time tag in unique? capacity a.key (packet_of a.pending) (events capacity h)

-- what the monitor is told
abbrev pub heard : List Call → HostCall → Option monitor.Call
heard h (sent sequence ordinal train time tag) = None
heard h (watched_sent sequence ordinal train time tag) = Some (monitor.sending sequence time)
heard h (accept sender reflector t3 pending time tag) = None
heard h (watched_accept sender reflector t3 pending time tag) = cond (is_heard h sender reflector t3 pending time tag) (Some (monitor.replying sender)) None
heard h (observe words) = None
heard h (monitor_sent sequence time) = Some (monitor.sending sequence time)
heard h (monitor_reply sequence) = Some (monitor.replying sequence)
heard h (monitor_advance time) = Some (monitor.advancing time)
heard h monitor_idle = Some monitor.idling

-- what a call with this number adds: nothing where it was refused
abbrev pub onto : {A : Type 0} → ℕ → Option A → List A → List A
onto zero (Some c) cs = c ∷ cs
onto zero None cs = cs
onto (suc n) c cs = cs

-- the calls that the ledger was served
unfoldable pub ledger_calls : Memory → List HostCall → List Call
ledger_calls x [] = []
ledger_calls x (c ∷ cs) = onto (play (after x cs) c).number (told c) (ledger_calls x cs)

-- the calls that the monitor was served
unfoldable pub monitor_calls : Memory → List HostCall → List monitor.Call
monitor_calls x [] = []
monitor_calls x (c ∷ cs) = onto (play (after x cs) c).number (heard (ledger_calls x cs) c) (monitor_calls x cs)

-- ---- how a link begins

-- what the host hands to `ambrulicciu_ledger_fresh` and `ambrulicciu_monitor_fresh`
pub record Settings : Type 0 where
  pub copies : ℕ
  pub secret : List ℕ
  pub threshold : ℕ
  pub timeout : ℕ

-- memory after both: rooms and queue hold whatever they held
abbrev pub begun : Settings → Memory → Memory
begun s x = watching (put x (fresh_of s.copies s.secret).ledger x.keys x.slots x.probes x.offsets x.links) (fresh_to s.threshold s.timeout).words x.queue

-- numbers fit their types, and rooms have the right size
pub record Fits (s : Settings) (x : Memory) : Type 0 where
  pub copies : s.copies < 2 ^ 16
  pub secret : (i : ℕ) → get_or s.secret i 0 < 2 ^ 32
  pub threshold : s.threshold < 2 ^ 16
  pub keys : Rows capacity 2 x.keys
  pub slots : Rows capacity 3 x.slots
  pub probes : Rows capacity 4 x.probes
  pub offsets : length x.offsets ≡ capacity
  pub links : Rows capacity 8 x.links
  pub queue : length x.queue ≡ capacity

-- each number of a call fits its type
abbrev pub Typed : HostCall → Type 0
Typed (sent sequence ordinal train time tag) = (sequence < 2 ^ 32) × (ordinal < 2 ^ 32) × (train < 2 ^ 32) × (time < 2 ^ 64) × (tag < 2 ^ 64)
Typed (watched_sent sequence ordinal train time tag) = (sequence < 2 ^ 32) × (ordinal < 2 ^ 32) × (train < 2 ^ 32) × (time < 2 ^ 64) × (tag < 2 ^ 64)
Typed (accept sender reflector t3 pending time tag) = (sender < 2 ^ 32) × (reflector < 2 ^ 32) × (t3 < 2 ^ 64) × (pending < 2 ^ 32) × (time < 2 ^ 64) × (tag < 2 ^ 64)
Typed (watched_accept sender reflector t3 pending time tag) = (sender < 2 ^ 32) × (reflector < 2 ^ 32) × (t3 < 2 ^ 64) × (pending < 2 ^ 32) × (time < 2 ^ 64) × (tag < 2 ^ 64)
Typed (observe words) = (i : ℕ) → get_or words i 0 < 2 ^ 32
Typed (monitor_sent sequence time) = (sequence < 2 ^ 32) × (time < 2 ^ 64)
Typed (monitor_reply sequence) = sequence < 2 ^ 32
Typed (monitor_advance time) = time < 2 ^ 64
Typed monitor_idle = Unit {0}

-- of every call
unfoldable pub AllTyped : List HostCall → Type 0
AllTyped [] = Unit {0}
AllTyped (c ∷ cs) = Typed c × AllTyped cs
