-- What a program prints of a log: document 01, 'Log and program': "prints `refused 9`, `refused 7` or `refused 8 at N`; else as here". Assumes nothing.
use Rattle.std.specs.Prelude.{cond, List, [], ◌++◌, ℕ, eqb, length, take, Err, Ok, Result}
use Rattle.decimal.specs.Decimal.{decimal}
use Rattle.decimal.specs.Writing.{over}
use Rattle.template.specs.Text.{bytes}
use Rattle.report.specs.Report.{report_room}
use Rattle.log_whole.specs.declared.Fault.{Fault}
use Rattle.log_whole.specs.declared.Settings.{Settings}
use Rattle.log_whole.specs.declared.Fault.TheVariants as fault
use Rattle.log_whole.specs.Logs.{log_of}

-- the line of a log that is refused; of a good one there is none
abbrev pub refusal_line : Result Settings Fault → List ℕ
refusal_line (Err fault.TooLong) = bytes "refused 9\n"
refusal_line (Err fault.BadTrailer) = bytes "refused 7\n"
refusal_line (Err (fault.BadRecord n)) = bytes "refused 8 at " ++ decimal n ++ bytes "\n"
refusal_line (Ok s) = []

-- how many bytes at the start of the buffer are to be printed, and the buffer
pub record Said : Type 0 where
  pub length : ℕ
  pub buffer : List ℕ

-- the record above, made of its parts in their order
abbrev pub said : ℕ → List ℕ → Said
said n buffer = record { length = n; buffer = buffer }

-- the bytes that are to be printed
abbrev pub bytes_of : Said → List ℕ
bytes_of s = take s.length s.buffer

-- a line at the start of the buffer
unfoldable pub line_in : List ℕ → List ℕ → Said
line_in line text = said (length line) (over text 0 line)

-- why a log is refused; a buffer of another size than a report's is left as it is, and nothing is printed
unfoldable pub refused_in : Result Settings Fault → List ℕ → Said
refused_in checked text = cond (eqb (length text) report_room) (line_in (refusal_line checked) text) (said 0 text)

-- of a report that was written, its bytes as they stand; of a log that was refused, why
unfoldable pub printed_in : List ℕ → Result ℕ ℕ → List ℕ → Said
printed_in log (Ok n) text = said n text
printed_in log (Err n) text = refused_in (log_of log) text
