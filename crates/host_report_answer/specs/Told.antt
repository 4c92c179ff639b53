-- What a host is told of a report: document 01's number, the buffer of the text, and the lent word of its length. Assumes nothing.
use Rattle.std.specs.Prelude.{List, [], ◌∷◌, ℕ, Result, Ok, Err}
use Rattle.report.specs.Report.{Outcome}

-- what a call leaves
pub record Told : Type 0 where
  pub number : ℕ
  pub text : List ℕ
  pub length : List ℕ

-- what a call leaves, made of its number, the text and the word of its length
abbrev pub told : ℕ → List ℕ → List ℕ → Told
told n text length = record { number = n; text = text; length = length }

-- the word of the length: the value that is answered; a refusal answers none, and the word stays as it was
abbrev pub length_after : List ℕ → List ℕ → List ℕ
length_after [] word = word
length_after (n ∷ ns) word = n ∷ ns

-- of the report's own outcome, and what the word held
abbrev pub told_of : Outcome → List ℕ → Told
told_of o word = told o.number o.buffer (length_after o.values word)

-- ---- the same of the answer as the code has it

-- 0 where the report is written, else the refusal's number
abbrev pub number_of : Result ℕ ℕ → ℕ
number_of (Ok n) = 0
number_of (Err n) = n

-- the word of the length: that of the report where it is written, else as it was
abbrev pub word_after : Result ℕ ℕ → List ℕ → List ℕ
word_after (Ok n) word = n ∷ []
word_after (Err n) word = word
