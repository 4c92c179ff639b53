-- The observation that 24 words of 32 bits say: what a host lends to `observe`. The fields are those of document 01's observe record ('Log and
-- program', kind 2) without the converted T3, the 8-byte ones first, each as two words with the low one first; the flags are that record's
-- byte 1, of which 16 is ignored.
-- Every word pattern says an observation. Assumes nothing.
use Rattle.call_types.specs.declared.CounterPoint.{CounterPoint}
use Rattle.call_types.specs.declared.FollowUpTelemetry.{FollowUpTelemetry}
use Rattle.estimate.specs.declared.ErrorEstimate.{ErrorEstimate}
use Rattle.std.specs.Prelude.{List, ℕ, ◌+◌, ◌/◌, ◌%◌, get_or, Option}
use Rattle.std.specs.Int.{w32, w64}
use Rattle.std.proofs.Common.{to_z}
use Rattle.estimate.specs.Make.{format_of}
use Rattle.call_types.specs.declared.ReplyKey.{ReplyKey}
use Rattle.call_types.specs.declared.ReplyObservation.{ReplyObservation}
use Rattle.host_numbers.specs.Numbers.{joined}
use Rattle.record_parts.specs.Parts.{flag, time_by, ordinal_by, counters_by, follow_by, estimates_by}

-- a field of 4 bytes
abbrev pub word : List ℕ → ℕ → ℕ
word w i = get_or w i 0

-- a field of 8 bytes: the word at i is its low half, the next one its high half
abbrev pub double : List ℕ → ℕ → ℕ
double w i = joined (word w i) (word w (i + 1))

-- the flags of the observe record, in the low 8 bits of word 21; the bits above are ignored
abbrev pub flags_at : List ℕ → ℕ
flags_at w = word w 21 % 256

-- 12 sender, 13 reflector, 0-1 T3
abbrev pub key_at : List ℕ → ReplyKey
key_at w = record { sender = word w 12; reflector = word w 13; t3 = double w 0 }

-- 15 S_TxC, 16 R_RxC, 17 R_TxC: flag 4
abbrev pub counters_at : List ℕ → Option CounterPoint
counters_at w = counters_by (flag 4 (flags_at w)) (word w 15) (word w 16) (word w 17)

-- 18 sequence, 10-11 timestamp: flag 8; within it unknown mode: flag 128
abbrev pub follow_at : List ℕ → Option FollowUpTelemetry
follow_at w = follow_by (flag 8 (flags_at w)) (word w 18) (double w 10) (flag 128 (flags_at w))

-- 20 as on the wire, the sender's estimate in the low 16 bits and the reflector's in the high ones: flag 32
abbrev pub estimates_at : List ℕ → Option (ErrorEstimate × ErrorEstimate)
estimates_at w = estimates_by (flag 32 (flags_at w)) (word w 20 % 65536) (word w 20 / 65536)

-- 2-3 round trip; 4-5 T4: flag 1; PTP: flag 64; 6-7 reference; 19 offset; 14 ordinal: flag 2. Words 8, 9, 22 and 23 are unused.
unfoldable pub observation_at : List ℕ → ReplyObservation
observation_at w = record {
  key = key_at w;
  rtt = double w 2;
  t4 = time_by (flag 1 (flags_at w)) (double w 4);
  format = format_of (flag 64 (flags_at w));
  reference = to_z w64 (double w 6);
  offset = to_z w32 (word w 19);
  ordinal = ordinal_by (flag 2 (flags_at w)) (word w 14);
  counters = counters_at w;
  follow = follow_at w;
  quality = estimates_at w;
}
