use Rattle.host_estimate.proofs.Answers.{in_seconds}
use Rattle.host_estimate.proofs.ambrulicciu_estimate_seconds.Goals as goal

pub returns : goal.returns
returns c = in_seconds c.args.wire c.args.seconds.now _ _ c.from_wire-estimate.ensures c.error_seconds.ensures
