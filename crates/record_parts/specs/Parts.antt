-- What a record of a log says, and its parts as numbers of the record, and back (document 01, 'Log and program'): "absent fields and flags 0", "signed as two's
-- complement" (`of_z` and `to_z` are the logic's own). Assumes nothing.
use Rattle.call_types.specs.declared.CounterPoint.{CounterPoint}
use Rattle.call_types.specs.declared.FollowUpTelemetry.{FollowUpTelemetry}
use Rattle.call_types.specs.declared.PendingPacket.{PendingPacket}
use Rattle.estimate.specs.declared.ErrorEstimate.{ErrorEstimate}
use Rattle.std.specs.Prelude.{Bool, ℕ, ◌+◌, ◌*◌, ◌/◌, ◌%◌, eqb, Option, Some, None, ℤ}
use Rattle.std.specs.Bool.{then_some}
use Rattle.std.specs.Option.{is_some}
use Rattle.std.specs.Int.{w64}
use Rattle.std.proofs.Common.{of_z, to_z}
use Rattle.estimate.specs.declared.ClockFormat.{ClockFormat}
use Rattle.estimate.specs.Make.{is_ptp}
use Rattle.estimate.specs.Wire.{bit, estimate_of, wire_of}
use Rattle.call_types.specs.declared.ReplyObservation.{ReplyObservation}
use Rattle.call_types.specs.declared.Call.{Call}
use Rattle.call_types.specs.declared.Call.TheVariants as call
use Rattle.record_parts.specs.declared.Entry.{Entry}
use Rattle.record_parts.specs.declared.Entry.TheVariants as entry

-- the call that a record makes: "Log flag 16 with its field is still read; the field no longer matters" (document 02, Q-9)
abbrev pub call_of : Entry → Call
call_of (entry.Sent p) = call.Sent p
call_of (entry.Accept r) = call.Accept r
call_of (entry.Observe o t) = call.Observe o
call_of (entry.Advance n) = call.Advance n
call_of entry.Idle = call.Idle

-- the flag of a record's flags that document 01 calls 1, 2, 4, .. or 128
abbrev pub flag : ℕ → ℕ → Bool
flag k flags = eqb (flags / k % 2) 1

-- ---- each part as a flag, 1 where it is there, and its numbers

-- of any part: 1 where it is there, 0 where it is absent
abbrev pub flag_of : {A : Type 0} → Option A → ℕ
flag_of part = bit (is_some part)

-- flag 1 of an accept: whether a packet is pending
abbrev pub pending_flag : Option PendingPacket → ℕ
pending_flag p = flag_of p

-- the pending packet's send time in ns, 0 where none is pending
abbrev pub pending_time : Option PendingPacket → ℕ
pending_time None = 0
pending_time (Some p) = p.time

-- the pending packet's tag, 0 where none is pending
abbrev pub pending_tag : Option PendingPacket → ℕ
pending_tag None = 0
pending_tag (Some p) = p.tag

-- 1 where a T4 or converted T3 is there, 0 where it is absent
abbrev pub time_flag : Option ℤ → ℕ
time_flag t = flag_of t

-- the ns of a T4 or converted T3 in two's complement of 64 bits, 0 where it is absent
abbrev pub time_word : Option ℤ → ℕ
time_word None = 0
time_word (Some z) = of_z w64 z

-- 1 where an observation has its probe's ordinal
abbrev pub ordinal_flag : Option ℕ → ℕ
ordinal_flag n = flag_of n

-- that ordinal, 0 where it is absent
abbrev pub ordinal_number : Option ℕ → ℕ
ordinal_number None = 0
ordinal_number (Some n) = n

-- 1 where the three counters are there: they come together or not at all
abbrev pub counters_flag : Option CounterPoint → ℕ
counters_flag k = flag_of k

-- S_TxC, 0 where the counters are absent
abbrev pub sender_count : Option CounterPoint → ℕ
sender_count None = 0
sender_count (Some p) = p.sender.0

-- R_RxC, 0 where the counters are absent
abbrev pub received_count : Option CounterPoint → ℕ
received_count None = 0
received_count (Some p) = p.received.0

-- R_TxC, 0 where the counters are absent
abbrev pub transmitted_count : Option CounterPoint → ℕ
transmitted_count None = 0
transmitted_count (Some p) = p.transmitted.0

-- 1 where the reply carries a follow-up
abbrev pub follow_flag : Option FollowUpTelemetry → ℕ
follow_flag f = flag_of f

-- the reflector sequence that the follow-up is about, 0 where there is no follow-up
abbrev pub follow_sequence : Option FollowUpTelemetry → ℕ
follow_sequence None = 0
follow_sequence (Some f) = f.sequence

-- the follow-up's timestamp as it came, not converted, 0 where there is no follow-up
abbrev pub follow_timestamp : Option FollowUpTelemetry → ℕ
follow_timestamp None = 0
follow_timestamp (Some f) = f.timestamp

-- the converted T3 that a record has beside a follow-up, which is absent where the follow-up is
abbrev pub follow_time : Option FollowUpTelemetry → Option ℤ → Option ℤ
follow_time None t = None
follow_time (Some f) t = t

-- 1 where there is a follow-up and its mode is unknown
abbrev pub unknown_flag : Option FollowUpTelemetry → ℕ
unknown_flag None = 0
unknown_flag (Some f) = bit f.unknown

-- 1 where the error estimates are there: both, or none
abbrev pub estimates_flag : Option (ErrorEstimate × ErrorEstimate) → ℕ
estimates_flag q = flag_of q

-- the 16 bits of the sender's estimate, 0 where the estimates are absent
abbrev pub sender_wire : Option (ErrorEstimate × ErrorEstimate) → ℕ
sender_wire None = 0
sender_wire (Some (s, r)) = wire_of s

-- the 16 bits of the reflector's estimate, 0 where the estimates are absent
abbrev pub reflector_wire : Option (ErrorEstimate × ErrorEstimate) → ℕ
reflector_wire None = 0
reflector_wire (Some (s, r)) = wire_of r

-- 1 for PTP, 0 for NTP
abbrev pub format_flag : ClockFormat → ℕ
format_flag f = bit (is_ptp f)

-- the flags of an observe: 1 T4, 2 ordinal, 4 counters, 8 follow-up, 16 converted T3, 32 estimates, 64 PTP, 128 unknown mode
unfoldable pub observe_flags : ReplyObservation → Option ℤ → ℕ
observe_flags o t =
    time_flag o.t4 + 2 * ordinal_flag o.ordinal + 4 * counters_flag o.counters + 8 * follow_flag o.follow
    + 16 * time_flag (follow_time o.follow t) + 32 * estimates_flag o.quality + 64 * format_flag o.format + 128 * unknown_flag o.follow

-- ---- and back: what a flag and its numbers say

-- of the flag, the time and the tag: no packet without the flag
abbrev pub pending_by : Bool → ℕ → ℕ → Option PendingPacket
pending_by there t g = then_some there (record { time = t; tag = g })

-- of the flag and the word, in two's complement of 64 bits: absent without the flag
abbrev pub time_by : Bool → ℕ → Option ℤ
time_by there w = then_some there (to_z w64 w)

-- of the flag and the number: absent without the flag, so that an ordinal 0 is one
abbrev pub ordinal_by : Bool → ℕ → Option ℕ
ordinal_by there n = then_some there n

-- of the flag, S_TxC, R_RxC and R_TxC in this order: absent without the flag
abbrev pub counters_by : Bool → ℕ → ℕ → ℕ → Option CounterPoint
counters_by there s r t = then_some there (record { sender = record { 0 = s }; received = record { 0 = r }; transmitted = record { 0 = t } })

-- of the flag, sequence, timestamp and unknown mode: no follow-up without the flag
abbrev pub follow_by : Bool → ℕ → ℕ → Bool → Option FollowUpTelemetry
follow_by there s t u = then_some there (record { sequence = s; timestamp = t; unknown = u })

-- of the flag, the sender's 16 bits and the reflector's: absent without the flag
abbrev pub estimates_by : Bool → ℕ → ℕ → Option (ErrorEstimate × ErrorEstimate)
estimates_by there s r = then_some there (estimate_of s, estimate_of r)
