-- What each call of an estimate answers and leaves in the lent words, by the definitions of crate estimate. Assumes nothing.
use Rattle.std.specs.Prelude.{◌≡◌, false, List, [], ◌∷◌, ℕ, ◌*◌, ◌^◌, Float, set, Result, Ok, Err}
use Rattle.std.specs.Float.{binary64}
use Rattle.std.specs.Float.Ieee.{of_bits, round}
use Rattle.std.proofs.lemmas.List.Edits.{sets}
use Rattle.host_numbers.specs.Numbers.{flag_word, is_set}
use Rattle.estimate.specs.declared.ErrorEstimate.{ErrorEstimate}
use Rattle.estimate.specs.declared.Reading.{Reading}
use Rattle.estimate.specs.declared.Reading.TheVariants.{Known, Invalid}
use Rattle.limits.specs.declared.Refusal.{Refusal}
use Rattle.limits.specs.Numbers.{number_of}
use Rattle.estimate.specs.Wire.{estimate_of, wire_of}
use Rattle.estimate.specs.Make.{made_of, smallest}
use Rattle.estimate.specs.Error.{InSeconds, reading_of, ExactMs}

-- what a call leaves: 0 or the refusal's number, and the lent words
pub record Left : Type 0 where
  pub number : ℕ
  pub words : List ℕ

-- what a call leaves, made of its number and the lent words
abbrev pub left : ℕ → List ℕ → Left
left n ws = record { number = n; words = ws }

-- an estimate that was made leaves its 16 bits; a refusal leaves the lent word as it was
abbrev pub wire_after : Result ErrorEstimate Refusal → List ℕ → Left
wire_after (Ok e) wire = left 0 (set wire 0 (wire_of e))
wire_after (Err why) wire = left (number_of why) wire

-- `new`
unfoldable pub new_to : ℕ → ℕ → ℕ → ℕ → List ℕ → Left
new_to synchronized ptp scale multiplier wire = wire_after (made_of (is_set synchronized) (is_set ptp) scale multiplier) wire

-- `unsynchronized_with_format`
unfoldable pub unsynchronized_to : ℕ → List ℕ → Left
unsynchronized_to ptp wire = left 0 (set wire 0 (wire_of (smallest (is_set ptp))))

-- the parts of an estimate: synchronized, PTP, scale, multiplier
abbrev pub parts_of : ErrorEstimate → List ℕ
parts_of e = flag_word e.synchronized ∷ flag_word e.ptp ∷ e.scale ∷ e.multiplier ∷ []

-- `from_wire`: the four lent words have the parts that 16 bits say
unfoldable pub parts_to : ℕ → List ℕ → Left
parts_to w parts = left 0 (sets parts 0 (parts_of (estimate_of w)))

-- ---- the error

-- what a call of the error in seconds leaves: 0, and the lent word
pub record LeftSeconds : Type 0 where
  pub number : ℕ
  pub seconds : List Float

-- what such a call leaves, made of its number and the lent word
abbrev pub left_seconds : ℕ → List Float → LeftSeconds
left_seconds n seconds = record { number = n; seconds = seconds }

-- multiplier * 2 ^ scale / 2 ^ 32
abbrev pub seconds_of : ErrorEstimate → Float
seconds_of e = round binary64 false (e.multiplier * 2 ^ e.scale) (2 ^ 32)

-- the lent word has the error in seconds of the estimate that 16 bits say; refuses nothing
unfoldable pub seconds_to : ℕ → List Float → LeftSeconds
seconds_to w seconds = left_seconds 0 (set seconds 0 (seconds_of (estimate_of w)))

-- `error_seconds` of the estimate that 16 bits say; nothing was rounded
pub record Seconds (w : ℕ) (before : List Float) (number : ℕ) (after : List Float) : Type 0 where
  pub is : left_seconds number after ≡ seconds_to w before
  pub exact : InSeconds (estimate_of w) (seconds_of (estimate_of w))

-- what a call of the reading leaves: 0, the word that says whether the error is known, that of the error in ms, and that of the 16 bits
pub record LeftReading : Type 0 where
  pub number : ℕ
  pub known : List ℕ
  pub milliseconds : List Float
  pub received : List ℕ

-- what such a call leaves, made of its number and its three words
abbrev pub left_reading : ℕ → List ℕ → List Float → List ℕ → LeftReading
left_reading n known ms received = record { number = n; known = known; milliseconds = ms; received = received }

-- 1, the error and 0; or 0, 0.0 and the bits
abbrev pub reading_after : Reading → List ℕ → List Float → List ℕ → LeftReading
reading_after (Known x) known ms received = left_reading 0 (set known 0 1) (set ms 0 x) (set received 0 0)
reading_after (Invalid bits) known ms received = left_reading 0 (set known 0 0) (set ms 0 (of_bits binary64 0)) (set received 0 bits)

-- the lent words have the reading of the estimate that 16 bits say; refuses nothing
unfoldable pub reading_to : ℕ → List ℕ → List Float → List ℕ → LeftReading
reading_to w known ms received = reading_after (reading_of (estimate_of w)) known ms received

-- `reading` of the estimate that 16 bits say; where its error is known, nothing was rounded
pub record ReadingLeft (w : ℕ) (known : List ℕ) (ms : List Float) (received : List ℕ) (number : ℕ) (known-after : List ℕ) (ms-after : List Float) (received-after : List ℕ) : Type 0 where
  pub is : left_reading number known-after ms-after received-after ≡ reading_to w known ms received
  pub exact : ExactMs (estimate_of w) (reading_of (estimate_of w))
