-- What is told of an area, in the words of an observation (`host_observation/specs/Observation.antt`). Assumes nothing.
use Rattle.area_observation.specs.declared.Sighting.{Sighting}
use Rattle.std.specs.Prelude.{List, ℕ, ◌+◌, ◌*◌, ◌/◌, ◌%◌, set, Option, Some, None}
use Rattle.host_numbers.specs.Numbers.{lower, upper, flag_word}
use Rattle.host_observation.specs.Observation.{word}
use Rattle.record_parts.specs.Parts.{counters_flag, sender_count, received_count, transmitted_count}
use Rattle.area_observation.specs.declared.Told.{Told}

-- 1 where there is a follow-up
abbrev pub sighted_flag : Option Sighting → ℕ
sighted_flag None = 0
sighted_flag (Some f) = 1

-- 1 where there is one and its mode is unknown
abbrev pub unknown_flag : Option Sighting → ℕ
unknown_flag None = 0
unknown_flag (Some f) = flag_word f.unknown

-- its sequence, 0 where there is none
abbrev pub sequence_of : Option Sighting → ℕ
sequence_of None = 0
sequence_of (Some f) = f.sequence

-- its timestamp, 0 where there is none
abbrev pub timestamp_of : Option Sighting → ℕ
timestamp_of None = 0
timestamp_of (Some f) = f.timestamp

-- a word of flags with 4 for the counters, 8 for the follow-up and 128 for its unknown mode; the other bits stay
abbrev pub flags_with : (old counters follow unknown : ℕ) → ℕ
flags_with old counters follow unknown = old % 4 + 4 * counters + 8 * follow + old / 16 % 8 * 16 + 128 * unknown + old / 256 * 256

-- 10-11 timestamp, 15 S_TxC, 16 R_RxC, 17 R_TxC, 18 sequence, 21 flags: 0 where there is none; the other words stay
abbrev pub told_words : Told → List ℕ → List ℕ
told_words t w =
    set (set (set (set (set (set (set w
    10 (lower (timestamp_of t.follow)))
    11 (upper (timestamp_of t.follow)))
    15 (sender_count t.counters))
    16 (received_count t.counters))
    17 (transmitted_count t.counters))
    18 (sequence_of t.follow))
    21 (flags_with (word w 21) (counters_flag t.counters) (sighted_flag t.follow) (unknown_flag t.follow))
