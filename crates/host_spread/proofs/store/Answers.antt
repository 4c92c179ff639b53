use Rattle.host_spread.proofs.Answers.{store_any_said}
use Rattle.host_spread.proofs.store.Goals as goal

pub returns : goal.returns
returns c =
    let a = c.args in
    store_any_said a.words.now a.collector _ _ c.bits_of.ensures.0 c.bits_of-2.ensures.0
