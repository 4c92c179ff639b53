-- What a host is told of a log's report, and what is left in the lent rooms. Assumes nothing.
use Rattle.std.specs.Prelude.{List, ℕ}
use Rattle.probe_queue.specs.declared.QueuedProbe.{QueuedProbe}
use Rattle.ledger_steps.specs.Rooms.{Rooms}
use Rattle.link_report.specs.LogReport.{Reported, report_of_log}
use Rattle.host_report_answer.specs.Told.{Told, told_of}

-- what a call leaves
pub record Left : Type 0 where
  pub told : Told
  pub queue : List QueuedProbe
  pub rooms : Rooms

-- what a call leaves, made of what it tells, the queue and the rooms
abbrev pub left : Told → List QueuedProbe → Rooms → Left
left t queue rooms = record { told = t; queue = queue; rooms = rooms }

-- of the report, and what the word of its length held
abbrev pub left_by : Reported → List ℕ → Left
left_by r word = left (told_of r.outcome word) r.queue r.rooms

-- 5, 9, 7 or 8 and nothing is changed, or the text: link_report's own definition of both
unfoldable pub report_log_to : List ℕ → List ℕ → List QueuedProbe → Rooms → List ℕ → List ℕ → Left
report_log_to log secret queue rooms text word = left_by (report_of_log log secret queue rooms text) word
