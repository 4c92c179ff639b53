-- The report of a log (document 01, 'Log and program'): its records played on a link that is made fresh, or the number with which it is refused.
-- Assumes nothing.
use Rattle.std.specs.Prelude.{Bool, List, [], ℕ, length, replicate, Result, Ok, Err}
use Rattle.limits.specs.Limits.{capacity}
use Rattle.limits.specs.Numbers.{number_of}
use Rattle.limits.specs.declared.Refusal.{Refusal}
use Rattle.probe_queue.specs.declared.QueuedProbe.{QueuedProbe}
use Rattle.probe_queue.specs.Queue.{nil}
use Rattle.ledger_steps.specs.Rooms.{Rooms}
use Rattle.link_steps.specs.declared.Link.{Link}
use Rattle.log_whole.specs.declared.Settings.{Settings}
use Rattle.log_whole.specs.Logs.{log_of}
use Rattle.log_play.specs.Tally.{standing_of, Tallied, tallied}
use Rattle.report.specs.Lines.{text_of}
use Rattle.report.specs.Report.{Outcome, written, report_of}
use Rattle.link_figures.specs.Figures.{figures_of}
use Rattle.log_settings.specs.Checks.{checked_by, rooms_fit}
use Rattle.log_settings.specs.Fresh.{link_by}

-- ---- the records played

-- a log's link, before any record
abbrev pub start_by : Settings → List ℕ → List QueuedProbe → Rooms → Tallied
start_by s secret queue rooms = record { standing = standing_of (link_by s secret) queue rooms; turned = 0 }

-- it, after all records
unfoldable pub end_of : List ℕ → List ℕ → List QueuedProbe → Rooms → Settings → Tallied
end_of log secret queue rooms s = tallied log (start_by s secret queue rooms) s.count

-- the report of a link and of how many records it turned away
abbrev pub played_text : Settings → Tallied → List ℕ
played_text s t = text_of (figures_of t.standing.link s.count t.turned)

-- ---- what is refused

-- a refusal's number only, and the buffer as it was
abbrev pub refused_with : ℕ → List ℕ → Outcome
refused_with n buffer = record { number = n; values = []; buffer = buffer }

-- the refusal, or the report of a link and of how many records it turned away
abbrev pub outcome_by : Result Settings Refusal → Link → ℕ → List ℕ → Outcome
outcome_by (Err r) link turned buffer = refused_with (number_of r) buffer
outcome_by (Ok s) link turned buffer = report_of buffer (figures_of link s.count turned)

-- ---- what the call leaves

-- the answer with the buffer, the rooms and the queue
pub record Reported : Type 0 where
  pub outcome : Outcome
  pub queue : List QueuedProbe
  pub rooms : Rooms

-- the record above, made of its parts in their order
abbrev pub reported : Outcome → List QueuedProbe → Rooms → Reported
reported o queue rooms = record { outcome = o; queue = queue; rooms = rooms }

-- a refusal changes nothing; else the text in the buffer and its length, and what the records leave
abbrev pub report_by : Result Settings Refusal → (Settings → Tallied) → List QueuedProbe → Rooms → List ℕ → Reported
report_by (Err r) end queue rooms buffer = reported (refused_with (number_of r) buffer) queue rooms
report_by (Ok s) end queue rooms buffer = reported (written (played_text s (end s)) buffer) (end s).standing.queue (end s).standing.rooms

-- whether the rooms, the queue and the buffer have their sizes: 4,096 entries each, and 1,024 bytes
abbrev pub fits : List QueuedProbe → Rooms → List ℕ → Bool
fits queue r buffer = rooms_fit (length queue) (length r.keys) (length r.slots) (length r.probes) (length r.offsets) (length r.links) (length buffer)

-- The text of a log's report in the buffer, and what its records leave in the rooms; nothing is changed where it is refused.
unfoldable pub report_of_log : List ℕ → List ℕ → List QueuedProbe → Rooms → List ℕ → Reported
report_of_log log secret queue rooms buffer = report_by (checked_by (fits queue rooms buffer) (log_of log)) (end_of log secret queue rooms) queue rooms buffer

-- the queue that a program lends: one in which nothing was ever written
abbrev pub empty_queue : List QueuedProbe
empty_queue = replicate capacity nil
