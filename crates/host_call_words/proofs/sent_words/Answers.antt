use Rattle.host_call_words.proofs.Laws.{sent-stored}
use Rattle.host_call_words.proofs.sent_words.Goals as goal

pub returns : goal.returns
returns c = sent-stored _ _ _ c.put_long.ensures c.put_long-2.ensures
