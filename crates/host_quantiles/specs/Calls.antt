-- What each call of the quantiles answers and leaves in the lent words, by the definitions of crates quantiles and percentiles on the state that
-- the words say. Assumes nothing.
use Rattle.std.specs.Prelude.{List, [], ◌∷◌, ℕ, zero, suc, Float, get_or, set}
use Rattle.std.proofs.lemmas.List.Edits.{sets}
use Rattle.host_numbers.specs.Numbers.{flag_word, is_set}
use Rattle.quantiles.specs.declared.Quantiles.{Quantiles}
use Rattle.quantiles.specs.Record as record-call
use Rattle.percentiles.specs.Percentiles as percentiles-call

-- what four words say, whatever they hold: signed, count, least, greatest
abbrev pub quantiles_at : List ℕ → Quantiles
quantiles_at ws = record { signed = is_set (get_or ws 0 0); count = get_or ws 1 0; min = get_or ws 2 0; max = get_or ws 3 0 }

-- the words with the count, the least and the greatest of a state; the flag's word stays
abbrev pub words_with : List ℕ → Quantiles → List ℕ
words_with ws q = sets ws 1 (q.count ∷ q.min ∷ q.max ∷ [])

-- ---- fresh

-- what the call leaves: its number, and the four words
pub record Started : Type 0 where
  pub number : ℕ
  pub words : List ℕ

-- the record above, made of its parts in their order
abbrev pub started : ℕ → List ℕ → Started
started n ws = record { number = n; words = ws }

-- no samples yet
unfoldable pub fresh_to : List ℕ → ℕ → Started
fresh_to ws signed = started 0 (sets ws 0 (flag_word (is_set signed) ∷ 0 ∷ 0 ∷ 0 ∷ []))

-- ---- record

-- what the call leaves: its number, the four words, the room, and the word of its answer
pub record RecordLeft : Type 0 where
  pub number : ℕ
  pub words : List ℕ
  pub room : List ℕ
  pub recorded : List ℕ

-- the record above, made of its parts in their order
abbrev pub record_left : ℕ → List ℕ → List ℕ → List ℕ → RecordLeft
record_left n ws room recorded = record { number = n; words = ws; room = room; recorded = recorded }

-- served: Rust's answer, and the state and the room as they then stand; a refusal changes nothing
abbrev pub record_by : ℕ → record-call.Outcome → List ℕ → List ℕ → List ℕ → RecordLeft
record_by zero o ws room recorded = record_left 0 (words_with ws o.state) o.room (set recorded 0 (flag_word o.answer))
record_by (suc n) o ws room recorded = record_left (suc n) ws room recorded

-- `record` of a value, signed ones in two's complement, at the state that the words say
unfoldable pub record_to : List ℕ → List ℕ → ℕ → List ℕ → RecordLeft
record_to ws room value recorded = let o = record-call.recorded (quantiles_at ws) room value in record_by o.number o ws room recorded

-- ---- percentiles

-- what the call leaves: its number, the words shown, and whether there are values
pub record PercentilesLeft : Type 0 where
  pub number : ℕ
  pub shown : List ℕ
  pub present : List ℕ

-- the record above, made of its parts in their order
abbrev pub percentiles_left : ℕ → List ℕ → List ℕ → PercentilesLeft
percentiles_left n shown present = record { number = n; shown = shown; present = present }

-- served: whether there are values, and what is then shown; a refusal changes nothing
abbrev pub percentiles_by : ℕ → percentiles-call.Outcome → List ℕ → List ℕ → PercentilesLeft
percentiles_by zero o shown present = percentiles_left 0 o.shown (set present 0 (flag_word o.values))
percentiles_by (suc n) o shown present = percentiles_left (suc n) shown present

-- `percentiles` at that state: a shown word for each percent; without samples the shown words stay
unfoldable pub percentiles_to : List ℕ → List ℕ → List Float → List ℕ → List ℕ → PercentilesLeft
percentiles_to ws room percents shown present =
    let o = percentiles-call.percentiles_of (quantiles_at ws) room percents shown in percentiles_by o.number o shown present
