-- What each call of a clock quality answers and leaves in the lent words, by the definitions of crate clock_quality on the quality that the words
-- say (`quality_at` of crate host_quality). Assumes nothing.
use Rattle.estimate.specs.declared.ErrorEstimate.{ErrorEstimate}
use Rattle.std.specs.Prelude.{cond, List, ℕ, Option, Some, None, Result, Ok, Err}
use Rattle.std.proofs.lemmas.List.Edits.{sets}
use Rattle.host_numbers.specs.Numbers.{is_set}
use Rattle.host_quality.specs.Words.{quality_at, quality_words}
use Rattle.estimate.specs.Wire.{estimate_of}
use Rattle.limits.specs.declared.Refusal.{Refusal}
use Rattle.limits.specs.Numbers.{number_of}
use Rattle.clock_quality.specs.declared.ClockQuality.{ClockQuality}
use Rattle.clock_quality.specs.Quality.{fresh, recorded_of}
use Rattle.clock_quality.specs.Bounds.{refusal_of, answer}

-- what a call leaves: 0 or the refusal's number, and the lent words
pub record Left : Type 0 where
  pub number : ℕ
  pub words : List ℕ

-- what a call leaves, made of its number and the lent words
abbrev pub left : ℕ → List ℕ → Left
left n ws = record { number = n; words = ws }

-- no sample yet; the last two words stay
unfoldable pub fresh_to : List ℕ → Left
fresh_to ws = left 0 (sets ws 0 (quality_words fresh))

-- the pair of estimates that a host hands over as on the wire, or none
abbrev pub estimates_from : ℕ → ℕ → ℕ → Option (ErrorEstimate × ErrorEstimate)
estimates_from estimated sender reflector = cond (is_set estimated) (Some (estimate_of sender, estimate_of reflector)) None

-- served: the quality as it then stands, the last two words stay; a refusal changes nothing
abbrev pub record_after : Result ClockQuality Refusal → List ℕ → Left
record_after (Ok next) ws = left 0 (sets ws 0 (quality_words next))
record_after (Err why) ws = left (number_of why) ws

-- what `record` answers of the quality that the words say
abbrev pub record_of : List ℕ → ℕ → ℕ → ℕ → Result ClockQuality Refusal
record_of ws estimated sender reflector = answer (refusal_of (quality_at 0 ws)) (recorded_of (quality_at 0 ws) (estimates_from estimated sender reflector))

-- `record`: its number, and the words after a pair of estimates, or after none where the flag's word is 0
unfoldable pub record_to : List ℕ → ℕ → ℕ → ℕ → Left
record_to ws estimated sender reflector = record_after (record_of ws estimated sender reflector) ws
