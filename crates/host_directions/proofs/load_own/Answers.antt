use Rattle.host_directions.proofs.Answers.{load_said}
use Rattle.host_directions.proofs.load_own.Goals as goal

pub returns : goal.returns
returns c =
    let a = c.args in
    load_said a.words.now a.reverse _ c.words_start-at.ensures.0
