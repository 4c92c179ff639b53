-- The class of a reply over the rooms is that over the history; a duplicate and an unknown leave all but one count.
-- Assumes nothing.
use Rattle.std.specs.Prelude.{Option}
use mathlib.Core.Path.{◌≡◌, refl, ap, ◌∙◌}
use mathlib.Core.Bool.{Bool, true, false}
use mathlib.Core.List.{List, ◌∷◌, map}
use Prim.Native.Nat.{ℕ, ◌<◌}
use lib.Dec.{ltb}
use Rattle.call_types.specs.declared.ReplyKey.{ReplyKey}
use Rattle.call_types.specs.declared.PendingPacket.{PendingPacket}
use Rattle.call_types.specs.declared.Reply.{Reply}
use Rattle.call_types.specs.declared.Call.{Call}
use Rattle.call_types.specs.declared.Call.TheVariants.{Accept}
use Rattle.key_ring.specs.Keys as ring
use Rattle.key_ring.specs.Table.{find_in}
use Rattle.key_ring.proofs.Tables as key_laws
use Rattle.probe_ring.specs.Rooms.{slot_of}
use Rattle.replies.specs.declared.ReplyClass.{ReplyClass}
use Rattle.replies.specs.declared.ReplyClass.TheVariants as class
use Rattle.replies.specs.Served as served
use Rattle.history.specs.Counting.{has, present}
use Rattle.history.specs.Given.{packet_of}
use Rattle.history.specs.Ledger.{Event, Class, duplicate, unknown, unique, class_by, has_key, last_accepted, held, reply_class, after_reply, awaiting, events, answer}
use Rattle.ledger_steps.specs.Rooms.{LedgerStand}
use Rattle.ledger_steps.specs.Accept.{AcceptOutcome, accept_by, accept_in}
use Rattle.reply_history.specs.Fits.{KeyFits}
use Rattle.reply_history.specs.Stands.{with_accept, accept_of}
use Rattle.reply_history.specs.Follows.{as_accepted, keys_table, probe_rooms, probe_in, RepliesFollow}
use Rattle.reply_history.proofs.Keys.{has_same}
use Rattle.reply_history.proofs.Ready.{found_is}
use Rattle.reply_history.proofs.Counts.{pending_same, counts-duplicate, counts-unknown}

-- the class in the code's type
abbrev pub as_class : Class → ReplyClass
as_class duplicate = class.Duplicate
as_class unknown = class.Unknown
as_class unique = class.Unique

class_same : (known there pending : Bool) → served.class_by known there pending ≡ as_class (class_by known there pending)
class_same true there pending = refl
class_same false true pending = refl
class_same false false true = refl
class_same false false false = refl

module _ (N : ℕ) (some-room : 0 < N) (by_key : ReplyKey → ℕ) (by_number : ℕ → ℕ) (copies : ℕ) (h : List Call) (s : LedgerStand) (a : Reply) (fits : KeyFits a.key)
    (f : RepliesFollow N by_key by_number copies h s) where
  abbrev es : List Event
  es = events N h

  abbrev pending : Option PendingPacket
  pending = packet_of a.pending

  -- A key is found exactly if it is among the last accepted.
  known_is : ltb (find_in N by_key by_number s.rooms.keys s.rooms.links s.ledger.tables.keys a.key) N ≡ has_key (last_accepted N es) a.key
  known_is = key_laws.find_is N by_key by_number (keys_table s) f.keys_sound a.key ∙ ap (λ (ks : List ReplyKey). ring.has_key ks a.key) f.keys_are ∙ has_same (last_accepted N es) a.key

  there_is : ltb (slot_of N by_number (probe_rooms s) a.key.sender) N ≡ has (held N es) a.key.sender
  there_is = found_is N some-room by_key by_number es (probe_rooms s) f.probes_sound f.probes_are a.key fits a.pending a.key.sender

  -- the outcome by a class
  abbrev pub by : Class → AcceptOutcome
  by x =
      accept_by N by_key by_number (as_class x) s.ledger s.rooms.keys s.rooms.slots s.rooms.probes s.rooms.links
      (slot_of N by_number (probe_rooms s) a.key.sender) a

  -- THE CLASS OVER THE ROOMS IS THE CLASS OVER THE HISTORY.
  pub accept_by_class : accept_of N by_key by_number s a ≡ by (reply_class N es a.key pending)
  unfolding accept_in reply_class
  accept_by_class =
      rw (known_is, there_is, pending_same a.pending, class_same (has_key (last_accepted N es) a.key) (has (held N es) a.key.sender) (present pending))

  -- what is to be shown of an outcome
  pub record AcceptFollows (o : AcceptOutcome) : Type 0 where
    pub follows : RepliesFollow N by_key by_number copies (Accept a ∷ h) (with_accept s o)
    pub answers : o.accepted ≡ as_accepted (answer N es a.key pending)

  -- ---- a duplicate and an unknown leave all but one count

  duplicate-kept : reply_class N es a.key pending ≡ duplicate → es ≡ events N (Accept a ∷ h)
  unfolding events after_reply
  duplicate-kept e = rw e

  unknown-kept : reply_class N es a.key pending ≡ unknown → es ≡ events N (Accept a ∷ h)
  unfolding events after_reply
  unknown-kept e = rw e

  pub duplicate_follows : reply_class N es a.key pending ≡ duplicate → AcceptFollows (by duplicate)
  unfolding answer
  duplicate_follows e = record {
    follows = record {
      keys_sound = f.keys_sound;
      keys_are = f.keys_are ∙ ap (last_accepted N) (duplicate-kept e);
      probes_sound = f.probes_sound;
      probes_are = f.probes_are ∙ ap (λ (x : List Event). map (probe_in x) (held N x)) (duplicate-kept e);
      awaits_is = f.awaits_is ∙ ap (λ (x : List Event). present (awaiting x)) (duplicate-kept e);
      copies_are = f.copies_are;
      replies_are = ap served.after_duplicate f.replies_are ∙ counts-duplicate N copies h a e;
    };
    answers = rw e;
  }

  pub unknown_follows : reply_class N es a.key pending ≡ unknown → AcceptFollows (by unknown)
  unfolding answer
  unknown_follows e = record {
    follows = record {
      keys_sound = f.keys_sound;
      keys_are = f.keys_are ∙ ap (last_accepted N) (unknown-kept e);
      probes_sound = f.probes_sound;
      probes_are = f.probes_are ∙ ap (λ (x : List Event). map (probe_in x) (held N x)) (unknown-kept e);
      awaits_is = f.awaits_is ∙ ap (λ (x : List Event). present (awaiting x)) (unknown-kept e);
      copies_are = f.copies_are;
      replies_are = ap served.after_unknown f.replies_are ∙ counts-unknown N copies h a e;
    };
    answers = rw e;
  }
