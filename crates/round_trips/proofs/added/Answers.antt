use Rattle.round_trips.proofs.Steps.{is_nearer, is_farther}
use Rattle.round_trips.proofs.added.Goals as goal

pub returns-then-sum : goal.returns-then-sum
returns-then-sum c =
    let s = c.before.before in
    let a = s.args in
    is_nearer a.sum a.ns _ c.if-sum.true c.nearer.ensures

pub returns : goal.returns
returns c =
    let s = c.before.before in
    let a = s.args in
    is_farther a.sum a.ns _ c.if-sum.false c.farther.ensures
