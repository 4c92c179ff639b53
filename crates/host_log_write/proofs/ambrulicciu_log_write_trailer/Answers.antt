use Rattle.log_record.proofs.Told.{told_is}
use Rattle.host_log_write.proofs.ambrulicciu_log_write_trailer.Goals as goal

pub returns : goal.returns
returns c = told_is _ _ _ _ c.number_in.ensures c.write-answer.ensures
