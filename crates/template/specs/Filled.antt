-- A template, filled from a list of values. Assumes nothing.
use Rattle.std.specs.Prelude.{cond, List, [], ◌∷◌, ◌++◌, ℕ, suc, ◌+◌, ◌*◌, eqb, length}
use Rattle.decimal.specs.Decimal.{decimal, most_digits}
use Rattle.template.specs.Text.{bytes}
use Rattle.template.specs.declared.Shown.{Shown}
use Rattle.template.specs.declared.Shown.TheVariants.{Absent, Number, None, Idle, Active, Failed}

-- what a place shows: a number's digits, `-` where it is absent, or a state's word
abbrev pub shown_text : Shown → List ℕ
shown_text Absent = bytes "-"
shown_text (Number n) = decimal n
shown_text None = bytes "none"
shown_text Idle = bytes "idle"
shown_text Active = bytes "active"
shown_text Failed = bytes "failed"

-- the byte of a template that stands for a value: `#`
abbrev pub place : ℕ
place = 35

-- a template with each place filled by the next value, all its other bytes as they are; with no value left it stays as it is
unfoldable pub filled : (template : List ℕ) → List Shown → List ℕ
filled [] values = []
filled (c ∷ rest) [] = c ∷ rest
filled (c ∷ rest) (v ∷ values) = cond (eqb c place) (shown_text v ++ filled rest values) (c ∷ filled rest (v ∷ values))

-- how many places a template has
unfoldable pub places : (template : List ℕ) → ℕ
places [] = 0
places (c ∷ rest) = cond (eqb c place) (suc (places rest)) (places rest)

-- no filled template is longer: its own bytes, and for each value the digits of the greatest number
abbrev pub most_filled : (template : List ℕ) → List Shown → ℕ
most_filled template values = length template + most_digits * length values
