use Rattle.host_estimate.proofs.Answers.{new-made, new-refused}
use Rattle.host_estimate.proofs.ambrulicciu_estimate_new.Goals as goal

pub returns-in-Ok : goal.returns-in-Ok
returns-in-Ok c =
    let at = c.args in
    new-made at.synchronized at.ptp at.scale at.multiplier at.wire.now _ _ _ c.new-made.ensures c.in-Ok.is c.to_wire.ensures

pub returns-in-Err : goal.returns-in-Err
returns-in-Err c =
    let at = c.args in
    new-refused at.synchronized at.ptp at.scale at.multiplier at.wire.now _ _ _ c.new-made.ensures c.in-Err.is c.from.ensures
