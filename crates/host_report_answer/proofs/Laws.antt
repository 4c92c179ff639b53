-- The answer's number and word are those of the report's outcome. Assumes nothing.
use Rattle.std.specs.Prelude.{Result, Ok, Err}
use mathlib.Core.Path.{◌≡◌, refl, ◌∙◌}
use mathlib.Core.List.{List}
use Prim.Native.Nat.{ℕ}
use Rattle.report.specs.Report.{outcome}
use Rattle.host_report_answer.specs.Told.{number_of, word_after, told, told_of}

of_outcome : (a : Result ℕ ℕ) (text word : List ℕ) → told (number_of a) text (word_after a word) ≡ told_of (outcome a text) word
unfolding outcome
of_outcome (Ok n) text word = refl
of_outcome (Err n) text word = refl

pub tells-outcome : (a : Result ℕ ℕ) (n : ℕ) (text word word' : List ℕ) → (n ≡ number_of a) × (word' ≡ word_after a word)
    → told n text word' ≡ told_of (outcome a text) word
tells-outcome a n text word word' e = (λ i. told (e.0 i) text (e.1 i)) ∙ of_outcome a text word
