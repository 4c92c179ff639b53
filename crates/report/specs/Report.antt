-- What the call of the report answers and leaves in the lent buffer. Assumes nothing.
use Rattle.std.specs.Prelude.{Bool, true, false, List, [], ◌∷◌, ◌++◌, ℕ, eqb, length, drop, Result, Ok, Err}
use Rattle.limits.specs.Refusals.{wrong_room}
use Rattle.report.specs.declared.figures.Figures.{Figures}
use Rattle.report.specs.Lines.{text_of}

-- the size of the buffer, in bytes
abbrev pub report_room : ℕ
report_room = 1024

-- document 01's number (0 where the call is served), the values that are answered, and the buffer
pub record Outcome : Type 0 where
  pub number : ℕ
  pub values : List ℕ
  pub buffer : List ℕ

-- the number and the values of each case of the answer
unfoldable pub outcome : Result ℕ ℕ → List ℕ → Outcome
outcome (Ok n) buffer = record { number = 0; values = n ∷ []; buffer = buffer }
outcome (Err n) buffer = record { number = n; values = []; buffer = buffer }

-- the first where the test holds, else the second
abbrev pub pick_outcome : Bool → Outcome → Outcome → Outcome
pick_outcome true a b = a
pick_outcome false a b = b

-- a text at the start of the buffer, all bytes behind it as they were, and its length
abbrev pub written : List ℕ → List ℕ → Outcome
written text buffer = record { number = 0; values = length text ∷ []; buffer = text ++ drop (length text) buffer }

-- a lent room of the wrong size: its number only, and nothing is changed
abbrev pub wrong : List ℕ → Outcome
wrong buffer = record { number = wrong_room; values = []; buffer = buffer }

-- The report is written where the buffer has its size, and is refused otherwise.
unfoldable pub report_of : List ℕ → Figures → Outcome
report_of buffer figures = pick_outcome (eqb (length buffer) report_room) (written (text_of figures) buffer) (wrong buffer)
