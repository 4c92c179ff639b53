-- What each call answers and leaves in the lent words, by the definitions of crates directions and series on both directions as the words say
-- them. Assumes nothing.
use Rattle.std.specs.Prelude.{Bool, cond, List, ℕ, zero, suc, set}
use Rattle.std.proofs.lemmas.List.Edits.{sets}
use Rattle.host_numbers.specs.Numbers.{flag_word, is_set}
use Rattle.delays.specs.Summary.{summary_of}
use Rattle.series.specs.Shown.{delays_of}
use Rattle.directions.specs.Directions as both
use Rattle.host_summary.specs.Words.{summary_words}
use Rattle.host_directions.specs.Words.{directions_at, words_start, direction_words, directions_words}

-- what a call leaves: its number, and the lent words
pub record WordsLeft : Type 0 where
  pub number : ℕ
  pub words : List ℕ

-- the record above, made of its parts in their order
abbrev pub words_left : ℕ → List ℕ → WordsLeft
words_left n ws = record { number = n; words = ws }

-- no samples yet, in either direction
unfoldable pub fresh_to : List ℕ → WordsLeft
fresh_to ws = words_left 0 (sets ws 0 (directions_words both.fresh_both))

-- what `record` leaves: its number, the twelve words, the slice, and the word of its answer
pub record RecordLeft : Type 0 where
  pub number : ℕ
  pub words : List ℕ
  pub slice : List ℕ
  pub recorded : List ℕ

-- the record above, made of its parts in their order
abbrev pub record_left : ℕ → List ℕ → List ℕ → List ℕ → RecordLeft
record_left n ws slice recorded = record { number = n; words = ws; slice = slice; recorded = recorded }

-- served: Rust's answer, and where it is true the six words of the sample's own direction as it then stands; a refusal writes nothing
abbrev pub record_by : Bool → ℕ → both.Outcome → List ℕ → List ℕ → RecordLeft
record_by reverse zero o ws recorded =
    record_left 0 (cond o.answer (sets ws (words_start reverse) (direction_words (both.own o.state reverse))) ws) o.slice (set recorded 0 (flag_word o.answer))
record_by reverse (suc n) o ws recorded = record_left (suc n) ws o.slice recorded

-- a sample of the one direction or the other, at both as the words say them
unfoldable pub record_to : (ws slice : List ℕ) (reverse v : ℕ) (recorded : List ℕ) → RecordLeft
record_to ws slice reverse v recorded = let o = both.record_in (directions_at ws) slice (is_set reverse) v in record_by (is_set reverse) o.number o ws recorded

-- minimum, average and maximum of a direction in ms
unfoldable pub show_to : (ws : List ℕ) (reverse : ℕ) (shown : List ℕ) → WordsLeft
show_to ws reverse shown =
    let d = both.own (directions_at ws) (is_set reverse) in words_left 0 (sets shown 0 (summary_words (summary_of (delays_of d.quantiles d.sum))))
