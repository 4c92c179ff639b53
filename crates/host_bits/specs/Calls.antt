-- What each call answers and leaves in the lent words, by the definitions of the crates below. A refusal leaves them as they were.
-- Assumes nothing.
use Rattle.std.specs.Prelude.{not, List, [], ◌∷◌, ℕ, eqb, set, Result, Ok, Err}
use Rattle.std.proofs.lemmas.List.Edits.{sets}
use Rattle.limits.specs.declared.Refusal.{Refusal}
use Rattle.limits.specs.Numbers.{number_of}
use Rattle.bit_errors.specs.declared.BitErrors.{BitErrors}
use Rattle.bit_pattern.specs.Pattern as pattern-call
use Rattle.bit_errors.specs.Errors as errors-call
use Rattle.bit_observation.specs.declared.Sample.{Sample}
use Rattle.bit_observation.specs.declared.Observed.{Observed}
use Rattle.bit_observation.specs.declared.Observed.TheVariants.{Unusable, Unsupported, Sampled}
use Rattle.bit_observation.specs.Observation.{observed}
use Rattle.bit_summary.specs.declared.DirectionSummary.{DirectionSummary}
use Rattle.bit_summary.specs.Summary.{fresh}
use Rattle.bit_summary.specs.Record as record-call
use Rattle.bit_summary.specs.Shown.{shown_of}
use Rattle.host_bits.specs.Words.{burst_from, known, word_of, ratio_word, summary_at, summary_words}

-- ---- the pattern's text

-- what the call leaves: its number, the room, and the word of the length
pub record ParseLeft : Type 0 where
  pub number : ℕ
  pub room : List ℕ
  pub length : List ℕ

-- what the call leaves, made of its number, the room and the word of the length
abbrev pub parse_left : ℕ → List ℕ → List ℕ → ParseLeft
parse_left n room length = record { number = n; room = room; length = length }

-- served: the bytes and their count; a refusal changes nothing
abbrev pub parse_by : Result ℕ Refusal → (room length : List ℕ) → ParseLeft
parse_by (Err e) room length = parse_left (number_of e) room length
parse_by (Ok n) room length = parse_left 0 room (set length 0 n)

-- `ambrulicciu_parse_pattern`
unfoldable pub parse_to : (text room length : List ℕ) → ParseLeft
parse_to text room length = let o = pattern-call.parsed text room in parse_by o.answer o.room length

-- ---- the count

-- what a call leaves: its number, and the lent words
pub record CountLeft : Type 0 where
  pub number : ℕ
  pub words : List ℕ

-- of this number and these words
abbrev pub count_left : ℕ → List ℕ → CountLeft
count_left n words = record { number = n; words = words }

-- served: the wrong bits and the longest run; a refusal changes nothing
abbrev pub count_by : Result BitErrors Refusal → List ℕ → CountLeft
count_by (Err e) words = count_left (number_of e) words
count_by (Ok c) words = count_left 0 (set (set words 0 c.errors) 1 c.longest)

-- `ambrulicciu_bit_errors`
unfoldable pub count_to : (padding pattern words : List ℕ) → CountLeft
count_to padding pattern words = count_by (errors-call.comparison padding pattern) words

-- ---- an observation

-- the seven words of a sample
abbrev pub sample_words : Sample → List ℕ
sample_words s = 2 ∷ s.bits ∷ s.forward ∷ known s.burst ∷ word_of s.burst ∷ s.reverse ∷ s.longest ∷ []

-- class 0 is nothing, 1 unsupported, and the other words then stay; 2 is a sample
abbrev pub observed_words : Observed → List ℕ → List ℕ
observed_words Unusable words = set words 0 0
observed_words Unsupported words = set words 0 1
observed_words (Sampled s) words = sets words 0 (sample_words s)

-- served: the words of what was observed; a refusal changes nothing
abbrev pub observe_by : Result Observed Refusal → List ℕ → CountLeft
observe_by (Err e) words = count_left (number_of e) words
observe_by (Ok o) words = count_left 0 (observed_words o words)

-- `ambrulicciu_bit_observation`
unfoldable pub observe_to : (items bytes pattern : List ℕ) (size intact wanted : ℕ) (words : List ℕ) → CountLeft
observe_to items bytes pattern size intact wanted words = observe_by (observed items bytes pattern size (not (eqb intact 0)) (not (eqb wanted 0))) words

-- ---- a summary

-- `ambrulicciu_bit_summary_fresh`
unfoldable pub fresh_to : List ℕ → CountLeft
fresh_to words = count_left 0 (sets words 0 (summary_words fresh))

-- served: the words of the summary as it then stands; a refusal changes nothing
abbrev pub record_by : Result DirectionSummary Refusal → List ℕ → CountLeft
record_by (Err e) words = count_left (number_of e) words
record_by (Ok d) words = count_left 0 (sets words 0 (summary_words d))

-- `ambrulicciu_bit_summary_record`
unfoldable pub record_to : List ℕ → (bits errors is_known burst : ℕ) → CountLeft
record_to words bits errors is_known burst =
    record_by (record-call.record_to (summary_at words) (record { bits = bits; errors = errors; burst = burst_from is_known burst })) words

-- the counts, then each value with whether it is there
unfoldable pub show_to : (words shown : List ℕ) → CountLeft
show_to words shown =
    let d = summary_at words in
    let r = shown_of d in
    count_left 0 (sets shown 0 (
    d.received ∷ d.faulty ∷ d.bits ∷ d.errors ∷ d.bursts ∷ known d.longest ∷ word_of d.longest
    ∷ known r.ratio ∷ ratio_word r.ratio ∷ known r.errors ∷ ratio_word r.errors
    ∷ known r.packets ∷ ratio_word r.packets ∷ known r.burst ∷ ratio_word r.burst ∷ []))
