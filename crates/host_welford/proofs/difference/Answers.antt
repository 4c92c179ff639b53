use Rattle.host_welford.proofs.Small.{difference_is}
use Rattle.host_welford.proofs.difference.Goals as goal

pub returns : goal.returns
returns c =
    let a = c.args in
    difference_is _ _ a.a a.b c.lifted-above.ensures c.lifted-below.ensures
