-- A call in the 44 words in which a host reads it: 0 its kind, 1 and 2 to 7 a sent, 8 to 16 an accept, 18 to 41 an observation, 42 and 43 the time of an
-- advance; those of the other kinds are 0. A C struct names them; a number of 8 bytes is two words, low half first. Assumes nothing.
use Rattle.estimate.specs.declared.ErrorEstimate.{ErrorEstimate}
use Rattle.std.specs.Prelude.{List, [], ◌∷◌, ◌++◌, ℕ, ◌+◌, ◌*◌, replicate, Option, None}
use Rattle.std.specs.Int.{w32, w64}
use Rattle.std.proofs.Common.{of_z}
use Rattle.host_numbers.specs.Numbers.{lower, upper}
use Rattle.call_types.specs.declared.Reply.{Reply}
use Rattle.call_types.specs.declared.ReplyObservation.{ReplyObservation}
use Rattle.call_types.specs.declared.SentProbe.{SentProbe}
use Rattle.call_types.specs.declared.Call.{Call}
use Rattle.call_types.specs.declared.Call.TheVariants as call
use Rattle.record_parts.specs.Parts.{observe_flags, pending_flag, pending_time, pending_tag, time_word, ordinal_number}
use Rattle.record_parts.specs.Parts.{sender_count, received_count, transmitted_count, follow_sequence, follow_timestamp, sender_wire, reflector_wire}

-- a number of 8 bytes as two words, before others
abbrev pub long : ℕ → List ℕ → List ℕ
long n rest = lower n ∷ upper n ∷ rest

-- both estimates as on the wire: the sender's in the low 16 bits
abbrev pub wires : Option (ErrorEstimate × ErrorEstimate) → ℕ
wires q = sender_wire q + 65536 * reflector_wire q

-- kind 0: train, time, tag, sequence, ordinal
abbrev pub sent_words : SentProbe → List ℕ
sent_words p = 0 ∷ p.train ∷ long p.packet.time (long p.packet.tag (p.sequence ∷ p.ordinal ∷ replicate 36 0))

-- kind 1: T3, and the pending packet's time and tag; sender, reflector, and 1 where a packet is pending
abbrev pub accept_words : Reply → List ℕ
accept_words r =
    1 ∷ replicate 7 0
    ++ long r.key.t3 (long (pending_time r.pending) (long (pending_tag r.pending)
    (r.key.sender ∷ r.key.reflector ∷ pending_flag r.pending ∷ replicate 27 0)))

-- an observation, as a host lends it to `observe`: what is absent is 0, and the flags are those of the log's record but for 16
abbrev pub observation_words : ReplyObservation → List ℕ
observation_words o =
    long o.key.t3 (long o.rtt (long (time_word o.t4) (long (of_z w64 o.reference)
    (0 ∷ 0 ∷ long (follow_timestamp o.follow)
    (o.key.sender ∷ o.key.reflector ∷ ordinal_number o.ordinal
    ∷ sender_count o.counters ∷ received_count o.counters ∷ transmitted_count o.counters
    ∷ follow_sequence o.follow ∷ of_z w32 o.offset ∷ wires o.quality ∷ observe_flags o None ∷ 0 ∷ 0 ∷ [])))))

-- kind 2
abbrev pub observe_words : ReplyObservation → List ℕ
observe_words o = 2 ∷ replicate 17 0 ++ observation_words o ++ 0 ∷ 0 ∷ []

-- kind 3: now
abbrev pub advance_words : ℕ → List ℕ
advance_words n = 3 ∷ replicate 41 0 ++ long n []

-- kind 4: no word but the kind
abbrev pub idle_words : List ℕ
idle_words = 4 ∷ replicate 43 0

-- of a call of any kind: 44 words, the kind first
unfoldable pub call_words : Call → List ℕ
call_words (call.Sent p) = sent_words p
call_words (call.Accept r) = accept_words r
call_words (call.Observe o) = observe_words o
call_words (call.Advance n) = advance_words n
call_words call.Idle = idle_words
