-- What the ledger shows of replies, from the plain list of served calls, newest first: the accepted keys, the held probes, the awaiting key
-- and every count. N is how many keys and probes are held. Assumes nothing.
use Rattle.std.specs.Prelude.{◌≡◌, Bool, false, List, map, ℕ, min, Some, None, Option}
use Rattle.call_types.specs.declared.ReplyKey.{ReplyKey}
use Rattle.call_types.specs.declared.Call.{Call}
use Rattle.probe_ring.specs.declared.HeldProbe.{HeldProbe}
use Rattle.probe_ring.specs.Row.{most_replies}
use Rattle.probe_ring.specs.Rooms as probe_ring
use Rattle.probe_ring.specs.Sound as probe_laws
use Rattle.key_ring.specs.Table as key_ring
use Rattle.key_ring.specs.Table.{Table, table_of, keys_of}
use Rattle.replies.specs.declared.Replies.{Replies}
use Rattle.history.specs.Counting.{present}
use Rattle.history.specs.Ledger.{Event, accepted, last_accepted, held, replies, packet, awaiting, events, same_key, ReplyCounts, reply_counts, last_reflector, highest_reflector}
use Rattle.history.specs.Ledger as history
use Rattle.ledger_steps.specs.declared.Accepted.{Accepted}
use Rattle.ledger_steps.specs.declared.Accepted.TheVariants as answers
use Rattle.ledger_steps.specs.Rooms.{LedgerStand}

-- ---- the history's words in the code's types

-- a probe's ordinal, or none
abbrev pub as_ordinal : Option ℕ → Option ℕ
as_ordinal None = None
as_ordinal (Some n) = Some n

-- the last or the highest reflector number, or none before the first unique reply
abbrev pub as_reflector : Option ℕ → Option ℕ
as_reflector None = None
as_reflector (Some n) = Some n

-- the probe s after these events; its replies are counted up to 65,535
abbrev pub probe_in : List Event → ℕ → HeldProbe
probe_in es s = record { sequence = s; replies = min (replies s es) most_replies; ordinal = as_ordinal (history.ordinal s es); train = history.train s es; packet = packet s es }

-- the counts and the reflector numbers
abbrev pub replies_by : ReplyCounts → List ReplyKey → Replies
replies_by c ks = record {
  totals = record { requested = c.requested; unique = c.unique; duplicate = c.duplicate; unknown = c.unknown };
  answers = record { answered = c.answered; additional = c.additional; late = c.late; satisfied = c.satisfied };
  numbers = record { last = as_reflector (last_reflector ks); highest = as_reflector (highest_reflector ks); reordered = c.reordered; independent = c.independent };
  evicted = record { probes = c.probes-evicted; replies = c.replies-evicted; unanswered = c.evicted-unanswered };
}

-- the same after the served calls h, with these copies
abbrev pub replies_in : ℕ → ℕ → List Call → Replies
replies_in N copies h = replies_by (reply_counts N copies h) (accepted (events N h))

-- this key awaits its observe
abbrev pub awaits_in : Option ReplyKey → ReplyKey → Bool
awaits_in None k = false
awaits_in (Some a) k = same_key k a

-- the answer of an accept
abbrev pub as_accepted : history.Answer → Accepted
as_accepted history.is_duplicate = answers.Duplicate
as_accepted history.is_unknown = answers.Unknown
as_accepted (history.is_unique p o t) = answers.Unique p (as_ordinal o) t

-- ---- the parts of a stand

-- the accepted keys and the correlation slots: their rooms, their links and their ring
abbrev pub keys_table : LedgerStand → Table
keys_table s = table_of s.rooms.keys s.rooms.slots s.rooms.links s.ledger.tables.keys

-- the held probes: their room, their links and their ring
abbrev pub probe_rooms : LedgerStand → probe_ring.Rooms
probe_rooms s = probe_ring.rooms s.rooms.probes s.rooms.links s.ledger.tables.probes

-- WHAT THE LEDGER SHOWS OF REPLIES FOLLOWS FROM THE SERVED CALLS.
pub record RepliesFollow (N : ℕ) (by_key : ReplyKey → ℕ) (by_number : ℕ → ℕ) (copies : ℕ) (h : List Call) (s : LedgerStand) : Type 0 where
  pub keys_sound : key_ring.Sound N by_key by_number (keys_table s)
  pub keys_are : keys_of N (keys_table s) ≡ last_accepted N (events N h)
  pub probes_sound : probe_laws.Sound N by_number (probe_rooms s)
  pub probes_are : probe_ring.held N (probe_rooms s) ≡ map (probe_in (events N h)) (held N (events N h))
  pub awaits_is : s.ledger.tables.awaits ≡ present (awaiting (events N h))
  pub copies_are : s.ledger.copies ≡ copies
  pub replies_are : s.ledger.counts.replies ≡ replies_in N copies h
