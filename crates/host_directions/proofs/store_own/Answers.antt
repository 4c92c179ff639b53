use Rattle.host_directions.proofs.Answers.{store_own-said}
use Rattle.host_directions.proofs.store_own.Goals as goal

pub returns : goal.returns
returns c =
    let a = c.args in
    store_own-said a.words.now a.reverse _ a.own _ c.words_start-at.ensures.0 c.flag.ensures.0
