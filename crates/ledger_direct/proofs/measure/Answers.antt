use Rattle.ledger_direct.proofs.Steps.{measured}
use Rattle.ledger_direct.proofs.measure.Goals as goal

pub returns : goal.returns
returns c =
    measured _ _ c.args.direct c.args.point c.args.ordinal c.args.offsets.now c.args.links.now _ _ _ _ _ _
    c.seen_in-count.ensures
    c.sought-sought.ensures
    c.contains-again.ensures
    c.record_point-step.ensures
    c.keep.ensures.0
    c.keep.ensures.1
