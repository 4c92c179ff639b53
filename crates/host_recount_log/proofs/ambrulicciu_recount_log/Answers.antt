use Rattle.host_recount_log.proofs.Laws.{log_told}
use Rattle.host_recount_log.proofs.ambrulicciu_recount_log.Reads as reads
use Rattle.host_recount_log.proofs.ambrulicciu_recount_log.Lts as lts
use Rattle.host_report_answer.proofs.tell.Reads as tell-reads
use Rattle.recount.proofs.recount_log.Reads as recount-log-reads
use Rattle.host_recount_log.proofs.ambrulicciu_recount_log.Goals as goal

pub returns : goal.returns
returns c = log_told _ _ _ _ _ _ _ _ _ _ _ c.recount_log-answer.ensures c.tell.ensures
