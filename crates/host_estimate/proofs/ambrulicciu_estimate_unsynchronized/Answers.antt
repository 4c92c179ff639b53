use Rattle.host_estimate.proofs.Answers.{unsynchronized-made}
use Rattle.host_estimate.proofs.ambrulicciu_estimate_unsynchronized.Goals as goal

pub returns : goal.returns
returns c =
    let at = c.args in
    unsynchronized-made at.ptp at.wire.now _ _ _ c.format_of.ensures c.unsynchronized_with_format-estimate.ensures c.to_wire.ensures
