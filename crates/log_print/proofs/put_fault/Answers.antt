use Rattle.std.specs.Prelude.{Err}
use mathlib.Core.Path.{ap}
use Rattle.log_whole.specs.declared.Fault.{Fault}
use Rattle.log_print.specs.Printed.{refusal_line}
use Rattle.log_print.proofs.Laws.{line_put}
use Rattle.log_print.proofs.put_fault.Goals as goal

pub returns-in-TooLong : goal.returns-in-TooLong
returns-in-TooLong c = line_put (ap (λ (f : Fault). refusal_line (Err f)) c.in-TooLong.is) c.put_text.ensures

pub returns-in-BadTrailer : goal.returns-in-BadTrailer
returns-in-BadTrailer c = line_put (ap (λ (f : Fault). refusal_line (Err f)) c.in-BadTrailer.is) c.put_text-in-BadTrailer.ensures

pub returns-in-BadRecord : goal.returns-in-BadRecord
returns-in-BadRecord c = line_put (ap (λ (f : Fault). refusal_line (Err f)) c.in-BadRecord.is) c.put_bad_record.ensures
