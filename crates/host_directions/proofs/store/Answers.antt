use Rattle.host_directions.proofs.Answers.{store_said}
use Rattle.host_directions.proofs.store.Goals as goal

pub returns : goal.returns
returns c =
    let a = c.args in
    store_said a.words.now a.directions _ _ c.flag.ensures.0 c.flag-2.ensures.0
