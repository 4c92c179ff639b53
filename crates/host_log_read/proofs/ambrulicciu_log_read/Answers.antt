use Rattle.host_log_read.proofs.Laws.{read_call, read_none}
use Rattle.host_log_read.proofs.ambrulicciu_log_read.Goals as goal

pub returns-in-Some : goal.returns-in-Some
returns-in-Some c = read_call _ _ _ _ _ _ c.call_at-played.ensures c.in-Some.is c.call_words-words.ensures

pub returns-in-None : goal.returns-in-None
returns-in-None c = read_none _ _ _ _ _ _ c.call_at-played.ensures c.in-None.is c.check.ensures c.no_call.ensures
