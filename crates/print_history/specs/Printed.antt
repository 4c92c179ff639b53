-- What is printed of a log, from its bytes alone (document 01, 'Log and program'). Assumes nothing.
use Rattle.std.specs.Prelude.{List, ℕ, Err, Ok, Result}
use Rattle.report.specs.Lines.{text_of}
use Rattle.log_whole.specs.declared.Fault.{Fault}
use Rattle.log_whole.specs.declared.Settings.{Settings}
use Rattle.log_whole.specs.Logs.{log_of}
use Rattle.report_history.specs.Figures.{report_from}
use Rattle.log_print.specs.Printed.{refusal_line}

-- the report of the served records where the log is good, else the line of why it is refused
abbrev pub printed_by : List ℕ → Result Settings Fault → List ℕ
printed_by log (Err f) = refusal_line (Err f)
printed_by log (Ok s) = text_of (report_from log s)

-- what is printed of the bytes of a log
abbrev pub printed_of : List ℕ → List ℕ
printed_of log = printed_by log (log_of log)
