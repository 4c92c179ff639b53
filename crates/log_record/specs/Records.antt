-- One record of a log, 96 bytes (document 01, 'Log and program'): "Byte 0 kind, 1 flags, 95 is 255-kind, unused and absent fields and flags
-- 0; a breach or other kind is bad (8)." A record is good exactly when it is the record of what it says; crate log_rules
-- shows that this is the same as document 01's rules byte by byte. Assumes nothing.
use Rattle.call_types.specs.declared.CounterPoint.{CounterPoint}
use Rattle.call_types.specs.declared.FollowUpTelemetry.{FollowUpTelemetry}
use Rattle.estimate.specs.declared.ErrorEstimate.{ErrorEstimate}
use Rattle.std.specs.Prelude.{Bool, true, cond, List, [], ◌∷◌, ℕ, ◌-◌, eqb, length, replicate, Option, Result, Ok, Err, ℤ}
use Rattle.std.specs.Str.{bytes_eq}
use Rattle.std.specs.Int.{w32, w64}
use Rattle.std.proofs.Common.{of_z, to_z}
use Rattle.limits.specs.Refusals.{wrong_room}
use Rattle.limits.specs.Numbers.{number_of}
use Rattle.limits.specs.declared.Refusal.{Refusal}
use Rattle.limits.specs.declared.Refusal.TheVariants as refusal
use Rattle.big_endian.specs.Numbers.{number_at}
use Rattle.big_endian.specs.Fields.{Field, byte, bytes2, bytes4, bytes8, written}
use Rattle.estimate.specs.Make.{format_of}
use Rattle.ranges.specs.Ranges.{estimates_fit}
use Rattle.call_types.specs.declared.Reply.{Reply}
use Rattle.call_types.specs.declared.ReplyKey.{ReplyKey}
use Rattle.call_types.specs.declared.ReplyObservation.{ReplyObservation}
use Rattle.call_types.specs.declared.SentProbe.{SentProbe}
use Rattle.record_parts.specs.declared.Entry.{Entry}
use Rattle.record_parts.specs.declared.Entry.TheVariants as entry
use Rattle.record_parts.specs.Parts.{flag, observe_flags, pending_flag, pending_time, pending_tag, time_word, ordinal_number}
use Rattle.record_parts.specs.Parts.{sender_count, received_count, transmitted_count, follow_sequence, follow_timestamp, follow_time}
use Rattle.record_parts.specs.Parts.{sender_wire, reflector_wire, pending_by, time_by, ordinal_by, counters_by, follow_by, estimates_by}

-- ---- the record of an entry: a call, and with an observe the converted T3 of flag 16

-- "Byte 0 kind, 1 flags, 95 is 255-kind", before the fields of the kind
abbrev pub frame : ℕ → ℕ → List Field → List Field
frame kind flags fields = byte 0 kind ∷ byte 1 flags ∷ byte 95 (255 - kind) ∷ fields

-- "0 sent (4 sequence, 8 ordinal, 12 time, 20 tag)"; "kind 0 carries the number at byte 28" (document 02, Q-3)
abbrev pub sent_fields : SentProbe → List Field
sent_fields p = bytes4 4 p.sequence ∷ bytes4 8 p.ordinal ∷ bytes8 12 p.packet.time ∷ bytes8 20 p.packet.tag ∷ bytes4 28 p.train ∷ []

-- "4 sender, 8 reflector, 12 T3", before other fields
abbrev pub key_fields : ReplyKey → List Field → List Field
key_fields k fields = bytes4 4 k.sender ∷ bytes4 8 k.reflector ∷ bytes8 12 k.t3 ∷ fields

-- "1 accept (4 sender, 8 reflector, 12 T3; flag 1 pending: 20 time, 28 tag)"
abbrev pub accept_fields : Reply → List Field
accept_fields r = key_fields r.key (bytes8 20 (pending_time r.pending) ∷ bytes8 28 (pending_tag r.pending) ∷ [])

-- "2 observe (4 to 19 key, 20 round trip, 28 T4 flag 1, 36 reference, 44 offset, 48 ordinal flag 2, 52 three counters in the order above flag 4,
-- 64 follow-up sequence and 68 timestamp flag 8, 76 converted T3 flag 16, 84 and 86 sender's and reflector's estimate flag 32;
-- flag 64 PTP, 128 unknown mode; 16 and 128 need 8)"
abbrev pub observe_fields : ReplyObservation → Option ℤ → List Field
observe_fields o t =
    key_fields o.key
    (bytes8 20 o.rtt
    ∷ bytes8 28 (time_word o.t4)
    ∷ bytes8 36 (of_z w64 o.reference)
    ∷ bytes4 44 (of_z w32 o.offset)
    ∷ bytes4 48 (ordinal_number o.ordinal)
    ∷ bytes4 52 (sender_count o.counters)
    ∷ bytes4 56 (received_count o.counters)
    ∷ bytes4 60 (transmitted_count o.counters)
    ∷ bytes4 64 (follow_sequence o.follow)
    ∷ bytes8 68 (follow_timestamp o.follow)
    ∷ bytes8 76 (time_word (follow_time o.follow t))
    ∷ bytes2 84 (sender_wire o.quality)
    ∷ bytes2 86 (reflector_wire o.quality)
    ∷ [])

-- "3 advance (4 now). 4 idle."
unfoldable pub table_of : Entry → List Field
table_of (entry.Sent p) = frame 0 0 (sent_fields p)
table_of (entry.Accept r) = frame 1 (pending_flag r.pending) (accept_fields r)
table_of (entry.Observe o t) = frame 2 (observe_flags o t) (observe_fields o t)
table_of (entry.Advance now) = frame 3 0 (bytes8 4 now ∷ [])
table_of entry.Idle = frame 4 0 []

-- 96 bytes that are 0
unfoldable pub blank : List ℕ
blank = replicate 96 0

-- the fields of the entry, and every other byte 0
unfoldable pub record_of : Entry → List ℕ
record_of c = written (table_of c) blank

-- ---- what 96 bytes say

-- "4 sender, 8 reflector, 12 T3"
abbrev pub key_at : List ℕ → ReplyKey
key_at r = record { sender = number_at 2 r 4; reflector = number_at 2 r 8; t3 = number_at 3 r 12 }

-- "4 sequence, 8 ordinal, 12 time, 20 tag", and the train at 28
abbrev pub sent_at : List ℕ → SentProbe
sent_at r = record {
  sequence = number_at 2 r 4;
  ordinal = number_at 2 r 8;
  train = number_at 2 r 28;
  packet = record { time = number_at 3 r 12; tag = number_at 3 r 20 };
}

-- of the record's flags, and the record: without flag 1 nothing is pending
abbrev pub accept_at : ℕ → List ℕ → Reply
accept_at flags r = record { key = key_at r; pending = pending_by (flag 1 flags) (number_at 3 r 20) (number_at 3 r 28) }

-- S_TxC, R_RxC and R_TxC from 52 on, absent without flag 4
abbrev pub counters_at : ℕ → List ℕ → Option CounterPoint
counters_at flags r = counters_by (flag 4 flags) (number_at 2 r 52) (number_at 2 r 56) (number_at 2 r 60)

-- the follow-up from 64 on, absent without flag 8; flag 128 unknown mode
abbrev pub follow_at : ℕ → List ℕ → Option FollowUpTelemetry
follow_at flags r = follow_by (flag 8 flags) (number_at 2 r 64) (number_at 3 r 68) (flag 128 flags)

-- the converted T3 at 76, absent without flag 16
abbrev pub converted_at : ℕ → List ℕ → Option ℤ
converted_at flags r = time_by (flag 16 flags) (number_at 3 r 76)

-- the sender's estimate at 84 and the reflector's at 86, absent without flag 32
abbrev pub estimates_at : ℕ → List ℕ → Option (ErrorEstimate × ErrorEstimate)
estimates_at flags r = estimates_by (flag 32 flags) (number_at 1 r 84) (number_at 1 r 86)

-- the observation; without flag 1 no T4, without flag 2 no ordinal, with flag 64 PTP
abbrev pub observe_at : ℕ → List ℕ → ReplyObservation
observe_at flags r = record {
  key = key_at r;
  rtt = number_at 3 r 20;
  t4 = time_by (flag 1 flags) (number_at 3 r 28);
  format = format_of (flag 64 flags);
  reference = to_z w64 (number_at 3 r 36);
  offset = to_z w32 (number_at 2 r 44);
  ordinal = ordinal_by (flag 2 flags) (number_at 2 r 48);
  counters = counters_at flags r;
  follow = follow_at flags r;
  quality = estimates_at flags r;
}

-- by the kind; a kind above 4 says idle, whose record has another kind, so that it is bad
abbrev pub entry_by : ℕ → ℕ → List ℕ → Entry
entry_by kind flags r =
    cond (eqb kind 0) (entry.Sent (sent_at r))
    (cond (eqb kind 1) (entry.Accept (accept_at flags r))
    (cond (eqb kind 2) (entry.Observe (observe_at flags r) (converted_at flags r))
    (cond (eqb kind 3) (entry.Advance (number_at 3 r 4))
    entry.Idle)))

-- byte 0 is its kind, byte 1 its flags
unfoldable pub entry_of : List ℕ → Entry
entry_of r = entry_by (number_at 0 r 0) (number_at 0 r 1) r

-- ---- good records

-- two lists of bytes are the same, in length too
abbrev pub same_bytes : List ℕ → List ℕ → Bool
same_bytes a b = bytes_eq a b

-- the record of what it says
unfoldable pub good : List ℕ → Bool
good r = same_bytes r (record_of (entry_of r))

-- "bad (8)"
abbrev pub bad_record : ℕ
bad_record = 8

-- a slice of another length is a room of the wrong size
abbrev pub read_number : List ℕ → ℕ
read_number r = cond (eqb (length r) 96) (cond (good r) 0 bad_record) wrong_room

-- by its length, and whether it is good: what it says, or why it is refused
abbrev pub answer : (sized kept : Bool) → Entry → Result Entry Refusal
answer sized kept c = cond sized (cond kept (Ok c) (Err refusal.BadRecord)) (Err refusal.WrongRoom)

-- what reading a record answers
unfoldable pub read_of : List ℕ → Result Entry Refusal
read_of r = answer (eqb (length r) 96) (good r) (entry_of r)

-- ---- writing

-- what a call of the writer leaves: its answer, and the lent bytes
pub record Wrote : Type 0 where
  pub answer : Result Unit Refusal
  pub bytes : List ℕ

-- the record above, made of its parts in their order
abbrev pub wrote : Result Unit Refusal → List ℕ → Wrote
wrote a bs = record { answer = a; bytes = bs }

-- an estimate on the wire has six bits of scale: an entry with another scale has no record
abbrev pub scales_fit : Entry → Bool
scales_fit (entry.Sent p) = true
scales_fit (entry.Accept r) = true
scales_fit (entry.Observe o t) = estimates_fit o.quality
scales_fit (entry.Advance n) = true
scales_fit entry.Idle = true

-- refused where not 96 bytes are lent (5), else for a scale above 63 (1)
abbrev pub write_answer : List ℕ → Entry → Result Unit Refusal
write_answer bs c = cond (eqb (length bs) 96) (cond (scales_fit c) (Ok tt) (Err refusal.OutOfRange)) (Err refusal.WrongRoom)

-- where nothing is refused the record of the entry; a refusal changes nothing
abbrev pub bytes_after : Result Unit Refusal → Entry → List ℕ → List ℕ
bytes_after (Ok u) c bs = record_of c
bytes_after (Err r) c bs = bs

-- what writing an entry's record answers and leaves in the lent bytes
unfoldable pub written_to : List ℕ → Entry → Wrote
written_to bs c = wrote (write_answer bs c) (bytes_after (write_answer bs c) c bs)

-- ---- what a host is told of what is written

-- the number of an answer: 0 where nothing is refused
abbrev pub number_in : Result Unit Refusal → ℕ
number_in (Ok u) = 0
number_in (Err r) = number_of r

-- what a host's call leaves: its number, and the lent bytes
pub record Told : Type 0 where
  pub number : ℕ
  pub bytes : List ℕ

-- the record above, made of its parts in their order
abbrev pub told : ℕ → List ℕ → Told
told n bs = record { number = n; bytes = bs }

-- of what the writer leaves: the answer by its number
abbrev pub told_of : Wrote → Told
told_of w = told (number_in w.answer) w.bytes
