-- The second count of a log: its report, or the number with which it is refused, and what is left in the lent rooms. Assumes nothing.
use Rattle.std.specs.Prelude.{Bool, true, false, ◌&&◌, List, [], ℕ, eqb, length, Result, Ok, Err}
use Rattle.limits.specs.declared.Refusal.{Refusal}
use Rattle.limits.specs.declared.Refusal.TheVariants as refusal
use Rattle.limits.specs.Numbers.{number_of}
use Rattle.log_whole.specs.declared.Settings.{Settings}
use Rattle.log_whole.specs.declared.Fault.{Fault}
use Rattle.log_whole.specs.Logs.{refusal_of, log_of}
use Rattle.report.specs.Lines.{text_of}
use Rattle.report.specs.Report.{Outcome, report_room, written}
use Rattle.recount_marks.specs.Marks.{marked_to}
use Rattle.recount_queue.specs.Moves.{move_at}
use Rattle.recount_monitor.specs.Session.{fronts_after}
use Rattle.recount.specs.Figures.{watched_by, figures_at}

-- ---- what is refused

-- a log has no more records: 65,536 bytes hold a trailer of 24 and 682 records of 96
abbrev pub most_records : ℕ
most_records = 682

-- every room has its size
abbrev pub rooms_fit : (marks fronts buffer : ℕ) → Bool
rooms_fit marks fronts buffer = eqb marks most_records && eqb fronts most_records && eqb buffer report_room

-- "9 above 65,536 bytes, 7 bad trailer, 8 bad record (first, from 0); tested in that order"
abbrev pub checked_of : Result Settings Fault → Result Settings Refusal
checked_of (Err f) = Err (refusal_of f)
checked_of (Ok s) = Ok s

-- before these, 5 where a room has another size
abbrev pub checked_by : Bool → Result Settings Fault → Result Settings Refusal
checked_by true l = checked_of l
checked_by false l = Err refusal.WrongRoom

-- ---- what the call leaves

-- the answer with the buffer, the marks and the fronts
pub record Recounted : Type 0 where
  pub outcome : Outcome
  pub marks : List ℕ
  pub fronts : List ℕ

-- the record above, made of its parts in their order
abbrev pub recounted : Outcome → List ℕ → List ℕ → Recounted
recounted o marks fronts = record { outcome = o; marks = marks; fronts = fronts }

-- the marks of a log with these settings, over what was in their room
abbrev pub marks_of : Settings → List ℕ → List ℕ → List ℕ
marks_of s log marks = marked_to (watched_by s.threshold) s.timeout log marks s.count

-- its fronts, over what was in theirs; without a monitor there are none
abbrev pub fronts_of : Settings → List ℕ → (marks : List ℕ) → List ℕ → List ℕ
fronts_of s log marks fronts = fronts_after s.threshold s.timeout (move_at log marks) fronts s.count

-- of a log with these settings: the text of its figures in the buffer and its length, a mark and a front for each record
abbrev pub recount_good : Settings → List ℕ → (marks fronts buffer : List ℕ) → Recounted
recount_good s log marks fronts buffer =
    recounted (written (text_of (figures_at s log (marks_of s log marks))) buffer) (marks_of s log marks) (fronts_of s log (marks_of s log marks) fronts)

-- a refusal's number only, and nothing is changed
abbrev pub refused_with : ℕ → (marks fronts buffer : List ℕ) → Recounted
refused_with n marks fronts buffer = recounted (record { number = n; values = []; buffer = buffer }) marks fronts

-- the one or the other
abbrev pub recount_by : Result Settings Refusal → List ℕ → (marks fronts buffer : List ℕ) → Recounted
recount_by (Err r) log marks fronts buffer = refused_with (number_of r) marks fronts buffer
recount_by (Ok s) log marks fronts buffer = recount_good s log marks fronts buffer

-- THE SECOND COUNT of a log, in rooms that may hold anything
unfoldable pub recount_of_log : List ℕ → (marks fronts buffer : List ℕ) → Recounted
recount_of_log log marks fronts buffer = recount_by (checked_by (rooms_fit (length marks) (length fronts) (length buffer)) (log_of log)) log marks fronts buffer
