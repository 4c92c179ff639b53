-- What the declared types of a call and of a record hold, and that an estimate's scale has six bits: such a record loses nothing in its bytes.
-- Assumes nothing.
use Rattle.std.specs.Prelude.{◌≡◌, ℕ, ◌^◌, ◌≤◌, ◌<◌, Option, Some, None, ℤ}
use Rattle.std.specs.Int.{w32, w64}
use Rattle.std.proofs.Common.{SFits}
use Rattle.estimate.specs.declared.ErrorEstimate.{ErrorEstimate}
use Rattle.call_types.specs.declared.PendingPacket.{PendingPacket}
use Rattle.call_types.specs.declared.CounterPoint.{CounterPoint}
use Rattle.call_types.specs.declared.FollowUpTelemetry.{FollowUpTelemetry}
use Rattle.call_types.specs.declared.ReplyKey.{ReplyKey}
use Rattle.call_types.specs.declared.Reply.{Reply}
use Rattle.call_types.specs.declared.SentProbe.{SentProbe}
use Rattle.call_types.specs.declared.ReplyObservation.{ReplyObservation}
use Rattle.record_parts.specs.declared.Entry.{Entry}
use Rattle.record_parts.specs.declared.Entry.TheVariants as entry

-- a number of 2 bytes: wires of estimates, and a log's copies and threshold
abbrev pub U16 : ℕ → Type 0
U16 n = n < 2 ^ 16

-- a number of 4 bytes: sequences, ordinals, trains and counters
abbrev pub U32 : ℕ → Type 0
U32 n = n < 2 ^ 32

-- a number of 8 bytes: send times, tags, T3 of a key, timestamps, round trips, now and a log's timeout
abbrev pub U64 : ℕ → Type 0
U64 n = n < 2 ^ 64

-- the two u64 words of a packet: send time in ns and tag
pub record PacketFits (p : PendingPacket) : Type 0 where
  pub time : U64 p.time
  pub tag : U64 p.tag

-- a pending packet's two words are u64; nothing is asked where none is pending
abbrev pub PendingFits : Option PendingPacket → Type 0
PendingFits None = Unit
PendingFits (Some p) = PacketFits p

-- sender and reflector sequence of 4 bytes, T3 of 8
pub record KeyFits (k : ReplyKey) : Type 0 where
  pub sender : U32 k.sender
  pub reflector : U32 k.reflector
  pub t3 : U64 k.t3

-- a T4 or converted T3 is a signed number of 64 bits; nothing is asked where it is absent
abbrev pub TimeFits : Option ℤ → Type 0
TimeFits None = Unit
TimeFits (Some z) = SFits w64 z

-- an observation's ordinal has 4 bytes; nothing is asked where it is absent
abbrev pub OrdinalFits : Option ℕ → Type 0
OrdinalFits None = Unit
OrdinalFits (Some n) = U32 n

-- S_TxC, R_RxC and R_TxC have 4 bytes each
pub record PointFits (p : CounterPoint) : Type 0 where
  pub sender : U32 p.sender.0
  pub received : U32 p.received.0
  pub transmitted : U32 p.transmitted.0

-- all three have; nothing is asked where they are absent
abbrev pub CountersFit : Option CounterPoint → Type 0
CountersFit None = Unit
CountersFit (Some p) = PointFits p

-- a follow-up's sequence of 4 bytes and its timestamp of 8
pub record TelemetryFits (f : FollowUpTelemetry) : Type 0 where
  pub sequence : U32 f.sequence
  pub timestamp : U64 f.timestamp

-- the same of an observation's follow-up; nothing is asked where it has none
abbrev pub FollowFits : Option FollowUpTelemetry → Type 0
FollowFits None = Unit
FollowFits (Some f) = TelemetryFits f

-- a scale of six bits (a larger one would lose bits in the wire) and a multiplier of eight
pub record EstimateFits (e : ErrorEstimate) : Type 0 where
  pub scale : e.scale ≤ 63
  pub multiplier : e.multiplier < 256

-- the same of the sender's and the reflector's; nothing is asked where they are absent
abbrev pub EstimatesFit : Option (ErrorEstimate × ErrorEstimate) → Type 0
EstimatesFit None = Unit
EstimatesFit (Some (s, r)) = EstimateFits s × EstimateFits r

-- what `sent` is told: sequence, ordinal and train of 4 bytes, and the packet
pub record SentFits (p : SentProbe) : Type 0 where
  pub sequence : U32 p.sequence
  pub ordinal : U32 p.ordinal
  pub train : U32 p.train
  pub packet : PacketFits p.packet

-- what `accept` is told: the key, and the pending packet if there
pub record ReplyFits (r : Reply) : Type 0 where
  pub key : KeyFits r.key
  pub pending : PendingFits r.pending

-- what `observe` is told: each field as wide as in a record of kind 2, reference and offset signed
pub record ObservationFits (o : ReplyObservation) : Type 0 where
  pub key : KeyFits o.key
  pub rtt : U64 o.rtt
  pub t4 : TimeFits o.t4
  pub reference : SFits w64 o.reference
  pub offset : SFits w32 o.offset
  pub ordinal : OrdinalFits o.ordinal
  pub counters : CountersFit o.counters
  pub follow : FollowFits o.follow
  pub quality : EstimatesFit o.quality

-- a record's converted T3: a signed number of 64 bits beside a follow-up, and absent where there is none
abbrev pub ConvertedFits : Option FollowUpTelemetry → Option ℤ → Type 0
ConvertedFits None t = t ≡ None
ConvertedFits (Some f) t = TimeFits t

-- the same of a record of any kind: an advance has its now, an idle has no field
abbrev pub EntryFits : Entry → Type 0
EntryFits (entry.Sent p) = SentFits p
EntryFits (entry.Accept r) = ReplyFits r
EntryFits (entry.Observe o t) = ObservationFits o × ConvertedFits o.follow t
EntryFits (entry.Advance n) = U64 n
EntryFits entry.Idle = Unit
