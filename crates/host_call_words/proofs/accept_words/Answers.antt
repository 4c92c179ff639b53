use Rattle.host_call_words.proofs.Laws.{accept-stored}
use Rattle.host_call_words.proofs.accept_words.Goals as goal

pub returns : goal.returns
returns c = accept-stored c.args.reply _ _ _ _ _ _ c.put_long.ensures c.pending_time.ensures c.put_long-2.ensures c.pending_tag.ensures c.put_long-3.ensures c.flag_of.ensures.value
