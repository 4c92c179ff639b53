use Rattle.host_directions.proofs.Answers.{show-said}
use Rattle.host_directions.proofs.ambrulicciu_directions_show.Goals as goal

pub returns : goal.returns
returns c =
    let a = c.args in
    show-said a.directions.now a.reverse a.shown.now _ _ _ c.load_own-direction.ensures c.summary-summary.ensures c.show.ensures
