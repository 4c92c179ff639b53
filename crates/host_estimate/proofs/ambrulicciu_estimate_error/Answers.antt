use mathlib.Core.Path.{refl}
use Rattle.host_estimate.proofs.Answers.{read}
use Rattle.host_estimate.proofs.ambrulicciu_estimate_error.Goals as goal

pub returns-in-Known : goal.returns-in-Known
returns-in-Known c =
    let at = c.args in
    read at.wire at.known.now at.milliseconds.now at.received.now _ _ _ c.from_wire-estimate.ensures c.reading-error.ensures c.in-Known.is _ _ _ _ refl

pub returns-in-Invalid : goal.returns-in-Invalid
returns-in-Invalid c =
    let at = c.args in
    read at.wire at.known.now at.milliseconds.now at.received.now _ _ _ c.from_wire-estimate.ensures c.reading-error.ensures c.in-Invalid.is _ _ _ _ refl
