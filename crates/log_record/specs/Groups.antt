-- The fields of a record in the groups in which the code writes them. Assumes nothing.
use Rattle.call_types.specs.declared.CounterPoint.{CounterPoint}
use Rattle.call_types.specs.declared.FollowUpTelemetry.{FollowUpTelemetry}
use Rattle.call_types.specs.declared.PendingPacket.{PendingPacket}
use Rattle.estimate.specs.declared.ErrorEstimate.{ErrorEstimate}
use Rattle.std.specs.Prelude.{List, [], ◌∷◌, Option, ℕ, ℤ}
use Rattle.std.specs.Int.{w32, w64}
use Rattle.std.proofs.Common.{of_z}
use Rattle.big_endian.specs.Fields.{Field, bytes2, bytes4, bytes8}
use Rattle.call_types.specs.declared.ReplyObservation.{ReplyObservation}
use Rattle.record_parts.specs.Parts.{pending_time, pending_tag, time_word, ordinal_number, sender_count, received_count, transmitted_count}
use Rattle.record_parts.specs.Parts.{follow_sequence, follow_timestamp, follow_time, sender_wire, reflector_wire}

-- of an accept: "flag 1 pending: 20 time, 28 tag"
abbrev pub pending_group : Option PendingPacket → List Field
pending_group p = bytes8 20 (pending_time p) ∷ bytes8 28 (pending_tag p) ∷ []

-- of an observe: "20 round trip, 28 T4 flag 1, 36 reference, 44 offset"
abbrev pub times_group : ReplyObservation → List Field
times_group o = bytes8 20 o.rtt ∷ bytes8 28 (time_word o.t4) ∷ bytes8 36 (of_z w64 o.reference) ∷ bytes4 44 (of_z w32 o.offset) ∷ []

-- of an observe: "48 ordinal flag 2, 52 three counters in the order above flag 4"
abbrev pub counts_group : Option ℕ → Option CounterPoint → List Field
counts_group n k = bytes4 48 (ordinal_number n) ∷ bytes4 52 (sender_count k) ∷ bytes4 56 (received_count k) ∷ bytes4 60 (transmitted_count k) ∷ []

-- of an observe: "64 follow-up sequence and 68 timestamp flag 8, 76 converted T3 flag 16"
abbrev pub follow_group : Option FollowUpTelemetry → Option ℤ → List Field
follow_group f t = bytes4 64 (follow_sequence f) ∷ bytes8 68 (follow_timestamp f) ∷ bytes8 76 (time_word (follow_time f t)) ∷ []

-- of an observe: "84 and 86 sender's and reflector's estimate flag 32"
abbrev pub quality_group : Option (ErrorEstimate × ErrorEstimate) → List Field
quality_group q = bytes2 84 (sender_wire q) ∷ bytes2 86 (reflector_wire q) ∷ []
