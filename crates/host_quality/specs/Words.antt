-- A clock quality in fourteen words: eight counts, then whether there is a largest error and its bits, then two words of the sender's last
-- estimate and two of the reflector's. What is absent is 0; any words say a clock quality. That nothing is lost is shown in proofs/Back.antt.
use Rattle.std.specs.Float.Ieee.{Float}
use Rattle.std.specs.Prelude.{◌≡◌, Bool, true, false, cond, List, [], ◌∷◌, ℕ, ◌+◌, ◌*◌, ◌/◌, ◌%◌, eqb, get_or, Option, Some, None}
use Rattle.std.specs.Float.{binary64}
use Rattle.std.specs.Float.Ieee.{of_bits, to_bits}
use Rattle.estimate.specs.declared.Reading.{Reading}
use Rattle.estimate.specs.declared.Reading.TheVariants.{Known, Invalid}
use Rattle.estimate.specs.Make.{is_ptp, format_of}
use Rattle.clock_quality.specs.declared.ClockEstimate.{ClockEstimate}
use Rattle.clock_quality.specs.declared.ClockQuality.{ClockQuality}
use Rattle.clock_quality.specs.Quality.{is_known}
use Rattle.host_numbers.specs.Numbers.{flag_word, is_set}

-- ---- a reading: its bits

-- those of its f64; those of the wire where it is invalid
abbrev pub error_bits : Reading → ℕ
error_bits (Known x) = to_bits binary64 x
error_bits (Invalid wire) = wire

-- known with these bits where the flag is set; else invalid with the low 16
abbrev pub error_of : Bool → ℕ → Reading
error_of true bits = Known (of_bits binary64 bits)
error_of false bits = Invalid (bits % 65536)

-- ---- an estimate: bit 0 set, 1 synchronized, 2 PTP, 3 error known; 8 to 15 the scale, 16 to 23 the multiplier; and a word of the reading's bits

-- the first of its two words, as above; never 0, since bit 0 is set
unfoldable pub estimate_word : ClockEstimate → ℕ
estimate_word e = 1 + flag_word e.synchronized * 2 + flag_word (is_ptp e.format) * 4 + flag_word (is_known e.error) * 8 + e.scale * 256 + e.multiplier * 65536

-- what two words say: the bits named above, but bit 0 is not looked at
unfoldable pub estimate_of : ℕ → ℕ → ClockEstimate
estimate_of word bits = record {
  synchronized = eqb (word / 2 % 2) 1;
  format = format_of (eqb (word / 4 % 2) 1);
  scale = word / 256 % 256;
  multiplier = word / 65536 % 256;
  error = error_of (eqb (word / 8 % 2) 1) bits;
}

-- the first word of the last estimate, 0 if there was none
abbrev pub last_word : Option ClockEstimate → ℕ
last_word None = 0
last_word (Some e) = estimate_word e

-- its second word, the bits of its reading; 0 if there was none
abbrev pub last_bits : Option ClockEstimate → ℕ
last_bits None = 0
last_bits (Some e) = error_bits e.error

-- what two words say: no last estimate where the first is 0
abbrev pub last_of : ℕ → ℕ → Option ClockEstimate
last_of word bits = cond (is_set word) (Some (estimate_of word bits)) None

-- ---- the largest combined error, if there is one

-- whether there is one, 1 or 0
abbrev pub largest_word : Option Float → ℕ
largest_word None = 0
largest_word (Some x) = 1

-- the bits of its f64 in ms, 0 where there is none
abbrev pub largest_bits : Option Float → ℕ
largest_bits None = 0
largest_bits (Some x) = to_bits binary64 x

-- what two words say: none where the first is 0
abbrev pub largest_of : ℕ → ℕ → Option Float
largest_of known bits = cond (is_set known) (Some (of_bits binary64 bits)) None

-- ---- the whole: what the fourteen words from a place on say, and the words of a clock quality

-- what the words from place `at` on say; words that the list does not have are 0
unfoldable pub quality_at : ℕ → List ℕ → ClockQuality
quality_at at w = record {
  samples = get_or w at 0;
  both = get_or w (at + 1) 0;
  unsynchronized = get_or w (at + 2) 0;
  invalid = get_or w (at + 3) 0;
  unknown = get_or w (at + 4) 0;
  invalid_sender = get_or w (at + 5) 0;
  invalid_reflector = get_or w (at + 6) 0;
  invalid_both = get_or w (at + 7) 0;
  largest = largest_of (get_or w (at + 8) 0) (get_or w (at + 9) 0);
  sender = last_of (get_or w (at + 10) 0) (get_or w (at + 11) 0);
  reflector = last_of (get_or w (at + 12) 0) (get_or w (at + 13) 0);
}

-- samples, both, unsynchronized, invalid, unknown; invalid at the sender alone, at the reflector alone, at both; largest; the sender's last, the reflector's last
unfoldable pub quality_words : ClockQuality → List ℕ
quality_words q =
    q.samples ∷ q.both ∷ q.unsynchronized ∷ q.invalid ∷ q.unknown ∷ q.invalid_sender ∷ q.invalid_reflector ∷ q.invalid_both
    ∷ largest_word q.largest ∷ largest_bits q.largest
    ∷ last_word q.sender ∷ last_bits q.sender ∷ last_word q.reflector ∷ last_bits q.reflector ∷ []

-- ---- nothing is lost: what is written is read back, of every value that fits its type

-- a reading, from whether it is known and its bits
abbrev pub ErrorKept : Reading → Type 0
ErrorKept e = error_of (is_known e) (error_bits e) ≡ e

-- a last estimate or none, from its two words
abbrev pub LastKept : Option ClockEstimate → Type 0
LastKept l = last_of (last_word l) (last_bits l) ≡ l

-- a largest error or none, from its two words
abbrev pub LargestKept : Option Float → Type 0
LargestKept l = largest_of (largest_word l) (largest_bits l) ≡ l

-- a clock quality, from its fourteen words
abbrev pub QualityKept : ClockQuality → Type 0
QualityKept q = quality_at 0 (quality_words q) ≡ q
