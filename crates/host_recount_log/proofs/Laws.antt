-- From what `recount::recount_log` answers to what a host is told. Assumes nothing.
use Rattle.std.specs.Prelude.{Result}
use mathlib.Core.Path.{◌≡◌, ap, ◌∙◌}
use mathlib.Core.List.{List}
use Prim.Native.Nat.{ℕ}
use Rattle.report.specs.Report.{outcome}
use Rattle.recount.specs.Recount.{Recounted, recounted, recount_of_log}
use Rattle.host_report_answer.specs.Told.{number_of, word_after, Told, told}
use Rattle.host_report_answer.proofs.Laws.{tells-outcome}
use Rattle.host_recount_log.specs.LogTold.{left, left_by, recount_log_to}

pub log_told : (log marks fronts text word : List ℕ) (a : Result ℕ ℕ) (marks' fronts' text' : List ℕ) (n : ℕ) (word' : List ℕ)
    → recounted (outcome a text') marks' fronts' ≡ recount_of_log log marks fronts text
    → (n ≡ number_of a) × (word' ≡ word_after a word)
    → left (told n text' word') marks' fronts' ≡ recount_log_to log marks fronts text word
unfolding recount_log_to
log_told log marks fronts text word a marks' fronts' text' n word' e t =
    ap (λ (x : Told). left x marks' fronts') (tells-outcome a n text' word word' t)
    ∙ ap (λ (r : Recounted). left_by r word) e
