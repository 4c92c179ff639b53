-- What a host is told of a link's report: the report of the link that its words say. Assumes nothing.
use Rattle.monitor.specs.declared.Monitor.{Monitor}
use Rattle.std.specs.Prelude.{Bool, not, ◌||◌, cond, List, ℕ, zero, suc, Option, Some, None}
use Rattle.limits.specs.Limits.{capacity}
use Rattle.limits.specs.Refusals.{wrong_room}
use Rattle.monitor.specs.Refusals.{misplaced}
use Rattle.ledger_state.specs.declared.Ledger.{Ledger}
use Rattle.ledger_state.specs.Refusal.{rings_fit}
use Rattle.link_steps.specs.declared.Link.{Link}
use Rattle.link_figures.specs.Figures.{figures_of}
use Rattle.report.specs.Report.{report_of}
use Rattle.host_ledger.specs.Words.{ledger_at}
use Rattle.host_monitor_words.specs.Words.{monitor_at}
use Rattle.host_report_answer.specs.Told.{Told, told, told_of}

-- `watched` 0: the link has no monitor, and the monitor's words are not looked at
abbrev pub watch_at : ℕ → List ℕ → Option Monitor
watch_at zero monitor = None
watch_at (suc n) monitor = Some (monitor_at monitor)

-- the link that the words of a ledger and of a monitor say
abbrev pub link_at : List ℕ → List ℕ → ℕ → Link
link_at ledger monitor watched = record { ledger = ledger_at ledger; watch = watch_at watched monitor }

-- a ring of the ledger, or of a monitor that watches, is not one that a call leaves
abbrev pub out_of_place : Ledger → Option Monitor → Bool
out_of_place ledger None = not (rings_fit ledger)
out_of_place ledger (Some monitor) = not (rings_fit ledger) || misplaced monitor capacity

-- the text of its figures, in a buffer of its size; 5 where a ring is out of place, and then nothing is written
unfoldable pub report_link_to : List ℕ → List ℕ → ℕ → ℕ → ℕ → List ℕ → List ℕ → Told
report_link_to ledger monitor watched records turned text word =
    cond (out_of_place (ledger_at ledger) (watch_at watched monitor)) (told wrong_room text word)
    (told_of (report_of text (figures_of (link_at ledger monitor watched) records turned)) word)
