-- What a host is told of a log that is counted a second time, and what is left in the lent rooms. Assumes nothing.
use Rattle.std.specs.Prelude.{List, ℕ}
use Rattle.recount.specs.Recount.{Recounted, recount_of_log}
use Rattle.host_report_answer.specs.Told.{Told, told_of}

-- what a call leaves
pub record Left : Type 0 where
  pub told : Told
  pub marks : List ℕ
  pub fronts : List ℕ

-- what a call leaves, made of what it tells, the marks and the fronts
abbrev pub left : Told → (marks fronts : List ℕ) → Left
left t marks fronts = record { told = t; marks = marks; fronts = fronts }

-- of the count, and what the word of its length held
abbrev pub left_by : Recounted → List ℕ → Left
left_by r word = left (told_of r.outcome word) r.marks r.fronts

-- 5, 9, 7 or 8 and nothing is changed, or the text: the engine's own definition of both
unfoldable pub recount_log_to : List ℕ → (marks fronts text word : List ℕ) → Left
recount_log_to log marks fronts text word = left_by (recount_of_log log marks fronts text) word
