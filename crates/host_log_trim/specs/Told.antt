-- What a host is told of a log that it has trimmed: the number, the lent bytes and the words of the answer. Assumes nothing.
use Rattle.std.specs.Prelude.{List, [], ◌∷◌, ℕ, Result, Ok, Err}
use Rattle.log_trim.specs.declared.Cut.{Cut}
use Rattle.limits.specs.declared.Refusal.{Refusal}
use Rattle.limits.specs.Numbers.{number_of}
use Rattle.log_trim.specs.Trimmed.{trim_to}

-- what a call leaves: its number, the lent bytes, and the lent words
pub record Left : Type 0 where
  pub number : ℕ
  pub bytes : List ℕ
  pub words : List ℕ

-- what a call leaves, made of its number, the bytes and the words
abbrev pub left : ℕ → List ℕ → List ℕ → Left
left n bs ws = record { number = n; bytes = bs; words = ws }

-- kept, stop, dropped
abbrev pub cut_words : Cut → List ℕ
cut_words c = c.kept ∷ c.stop ∷ c.dropped ∷ []

-- 0 and the words of what was kept; a refusal is its number, and the words are as they were
abbrev pub told_by : Result Cut Refusal → List ℕ → List ℕ → Left
told_by (Ok c) bs ws = left 0 bs (cut_words c)
told_by (Err r) bs ws = left (number_of r) bs ws

-- of the log's bytes, the settings, and what the bytes and the words held
unfoldable pub trim_told : List ℕ → (copies threshold timeout : ℕ) → List ℕ → List ℕ → Left
trim_told log copies threshold timeout bs ws = told_by (trim_to log copies threshold timeout bs).answer (trim_to log copies threshold timeout bs).room ws
