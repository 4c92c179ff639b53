use Rattle.host_estimate.proofs.Answers.{parts_said}
use Rattle.host_estimate.proofs.ambrulicciu_estimate_parts.Goals as goal

pub returns : goal.returns
returns c =
    let at = c.args in
    parts_said at.wire at.parts.now _ _ _ c.from_wire-estimate.ensures c.flag.ensures.0 c.flag-2.ensures.0
