-- From what `link_report::report_log` answers to what a host is told. Assumes nothing.
use Rattle.std.specs.Prelude.{Result}
use mathlib.Core.Path.{◌≡◌, ap, ◌∙◌}
use mathlib.Core.List.{List}
use Prim.Native.Nat.{ℕ}
use Rattle.probe_queue.specs.declared.QueuedProbe.{QueuedProbe}
use Rattle.report.specs.Report.{outcome}
use Rattle.log_play_parts.specs.Parts.{rooms_of}
use Rattle.link_report.specs.LogReport.{Reported, reported, report_of_log}
use Rattle.host_report_answer.specs.Told.{number_of, word_after, Told, told}
use Rattle.host_report_answer.proofs.Laws.{tells-outcome}
use Rattle.host_report_log.specs.LogTold.{left, left_by, report_log_to}

pub log_told : (log secret : List ℕ) (keys slots probes : List (List ℕ)) (offsets : List ℕ) (links : List (List ℕ)) (queue : List QueuedProbe) (text word : List ℕ)
    (a : Result ℕ ℕ) (keys' slots' probes' : List (List ℕ)) (offsets' : List ℕ) (links' : List (List ℕ)) (queue' : List QueuedProbe) (text' : List ℕ) (n : ℕ) (word' : List ℕ)
    → reported (outcome a text') queue' (rooms_of keys' slots' probes' offsets' links') ≡ report_of_log log secret queue (rooms_of keys slots probes offsets links) text
    → (n ≡ number_of a) × (word' ≡ word_after a word)
    → left (told n text' word') queue' (rooms_of keys' slots' probes' offsets' links') ≡ report_log_to log secret queue (rooms_of keys slots probes offsets links) text word
unfolding report_log_to
log_told log secret keys slots probes offsets links queue text word a keys' slots' probes' offsets' links' queue' text' n word' e t =
    ap (λ (x : Told). left x queue' (rooms_of keys' slots' probes' offsets' links')) (tells-outcome a n text' word word' t)
    ∙ ap (λ (r : Reported). left_by r word) e
