-- The ledger with its rooms, from fresh and after each served call. N is how many keys and probes are held; by_key and by_number say which
-- chain is walked. Assumes nothing.
use Rattle.std.specs.Prelude.{◌≡◌, List, [], ◌∷◌, ℕ, length}
use Rattle.call_types.specs.declared.ReplyKey.{ReplyKey}
use Rattle.call_types.specs.declared.SentProbe.{SentProbe}
use Rattle.call_types.specs.declared.Reply.{Reply}
use Rattle.call_types.specs.declared.ReplyObservation.{ReplyObservation}
use Rattle.call_types.specs.declared.Call.{Call}
use Rattle.call_types.specs.declared.Call.TheVariants.{Sent, Accept, Observe, Advance, Idle}
use Rattle.chains.specs.Links.{Rows}
use Rattle.ledger_state.specs.State.{fresh_ledger}
use Rattle.ledger_steps.specs.Rooms.{Rooms, LedgerStand}
use Rattle.ledger_steps.specs.Sent.{SentOutcome, sent_in}
use Rattle.ledger_steps.specs.Accept.{AcceptOutcome, accept_in}
use Rattle.ledger_steps.specs.Observe.{ObserveOutcome, observe_in}

-- ---- fresh

-- rooms of the right size, whatever they hold
pub record RoomsFit (N : ℕ) (r : Rooms) : Type 0 where
  pub keys_fit : Rows N 2 r.keys
  pub slots_fit : Rows N 3 r.slots
  pub probes_fit : Rows N 4 r.probes
  pub offsets_fit : length r.offsets ≡ N
  pub links_fit : Rows N 8 r.links

-- a fresh ledger over these rooms
abbrev pub fresh_stand : ℕ → List ℕ → Rooms → LedgerStand
fresh_stand copies secret r = record { ledger = fresh_ledger copies secret; rooms = r }

-- ---- what each call leaves; the rooms that it is not lent stay

-- after `sent`: probes and links are new
abbrev pub with_sent : LedgerStand → SentOutcome → LedgerStand
with_sent s o = record {
  ledger = o.ledger;
  rooms = record { keys = s.rooms.keys; slots = s.rooms.slots; probes = o.probes; offsets = s.rooms.offsets; links = o.links };
}

-- after `accept`: all but the offsets are new
abbrev pub with_accept : LedgerStand → AcceptOutcome → LedgerStand
with_accept s o = record {
  ledger = o.ledger;
  rooms = record { keys = o.keys; slots = o.slots; probes = o.probes; offsets = s.rooms.offsets; links = o.links };
}

-- after `observe`: slots, offsets and links are new
abbrev pub with_observe : LedgerStand → ObserveOutcome → LedgerStand
with_observe s o = record {
  ledger = o.ledger;
  rooms = record { keys = s.rooms.keys; slots = o.slots; probes = s.rooms.probes; offsets = o.offsets; links = o.links };
}

module _ (N : ℕ) (by_key : ReplyKey → ℕ) (by_number : ℕ → ℕ) where
  -- `sent` of a probe, served
  abbrev pub sent_of : LedgerStand → SentProbe → SentOutcome
  sent_of s p = sent_in N by_number s.ledger s.rooms.probes s.rooms.links p

  -- `accept` of a reply, served
  abbrev pub accept_of : LedgerStand → Reply → AcceptOutcome
  accept_of s a = accept_in N by_key by_number s.ledger s.rooms.keys s.rooms.slots s.rooms.probes s.rooms.links a

  -- `observe` of a reply, served
  abbrev pub observe_of : LedgerStand → ReplyObservation → ObserveOutcome
  observe_of s o = observe_in N by_key by_number s.ledger s.rooms.keys s.rooms.slots s.rooms.offsets s.rooms.links o

  -- one served call; those of the monitor alone leave the ledger as it is
  abbrev pub stepped : LedgerStand → Call → LedgerStand
  stepped s (Sent p) = with_sent s (sent_of s p)
  stepped s (Accept a) = with_accept s (accept_of s a)
  stepped s (Observe o) = with_observe s (observe_of s o)
  stepped s (Advance t) = s
  stepped s Idle = s

  -- all of these served, newest first
  unfoldable pub stepped_all : LedgerStand → List Call → LedgerStand
  stepped_all s [] = s
  stepped_all s (c ∷ h) = stepped (stepped_all s h) c
