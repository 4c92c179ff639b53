-- What each call answers and leaves in the lent words, by the definitions of crates spread and series on the collector that the words say.
-- Assumes nothing.
use Rattle.std.specs.Prelude.{cond, List, ℕ, zero, suc, set}
use Rattle.std.proofs.lemmas.List.Edits.{sets}
use Rattle.host_numbers.specs.Numbers.{flag_word}
use Rattle.delays.specs.Summary.{summary_of}
use Rattle.series.specs.Shown.{delays_of}
use Rattle.spread.specs.Spread.{fresh}
use Rattle.spread.specs.Record as record-call
use Rattle.host_summary.specs.Words.{summary_words}
use Rattle.host_spread.specs.Words.{collector_at, collector_words}

-- what a call leaves: its number, and the lent words
pub record WordsLeft : Type 0 where
  pub number : ℕ
  pub words : List ℕ

-- the record above, made of its parts in their order
abbrev pub words_left : ℕ → List ℕ → WordsLeft
words_left n ws = record { number = n; words = ws }

-- no samples yet
unfoldable pub fresh_to : List ℕ → WordsLeft
fresh_to ws = words_left 0 (sets ws 0 (collector_words fresh))

-- what `record` leaves: its number, the twelve words, the room, and the word of its answer
pub record RecordLeft : Type 0 where
  pub number : ℕ
  pub words : List ℕ
  pub room : List ℕ
  pub recorded : List ℕ

-- the record above, made of its parts in their order
abbrev pub record_left : ℕ → List ℕ → List ℕ → List ℕ → RecordLeft
record_left n ws room recorded = record { number = n; words = ws; room = room; recorded = recorded }

-- served: Rust's answer, and where it is true the collector as it then stands; a refusal writes nothing
abbrev pub record_by : ℕ → record-call.Outcome → List ℕ → List ℕ → RecordLeft
record_by zero o ws recorded = record_left 0 (cond o.answer (sets ws 0 (collector_words o.state)) ws) o.room (set recorded 0 (flag_word o.answer))
record_by (suc n) o ws recorded = record_left (suc n) ws o.room recorded

-- `record` of a value at the collector that the words say
unfoldable pub record_to : List ℕ → List ℕ → ℕ → List ℕ → RecordLeft
record_to ws room v recorded = let o = record-call.record_to (collector_at ws) room v in record_by o.number o ws recorded

-- minimum, average and maximum in ms
unfoldable pub show_to : (ws shown : List ℕ) → WordsLeft
show_to ws shown = let c = collector_at ws in words_left 0 (sets shown 0 (summary_words (summary_of (delays_of c.quantiles c.sum))))
