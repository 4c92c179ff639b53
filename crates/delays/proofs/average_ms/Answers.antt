use Rattle.delays.specs.Sums.{total_of}
use Rattle.delays.proofs.Steps.{divided}
use Rattle.delays.proofs.average_ms.Goals as goal

pub returns : goal.returns
returns c =
    let a = c.args in
    divided (total_of a.sum) a.count _ _ c.if-count-eq0.false c.nearest_signed-total.ensures c.nearest-divisor.ensures
