use Rattle.host_spread.proofs.Answers.{show-said}
use Rattle.host_spread.proofs.ambrulicciu_spread_show.Goals as goal

pub returns : goal.returns
returns c =
    let a = c.args in
    show-said a.spread.now a.shown.now _ _ _ c.load-state.ensures c.summary-summary.ensures c.show.ensures
