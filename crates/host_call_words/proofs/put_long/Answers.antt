use Rattle.host_call_words.proofs.Laws.{long-stored}
use Rattle.host_call_words.proofs.put_long.Goals as goal

pub returns : goal.returns
returns c =
    let a = c.args in
    long-stored a.words.now a.at a.n _ _ c.low.ensures c.high.ensures
