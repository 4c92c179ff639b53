use Rattle.bit_summary.proofs.Steps.{some_errors}
use Rattle.bit_summary.proofs.wrong_packet.Goals as goal

pub returns-else-errors-eq0 : goal.returns-else-errors-eq0
returns-else-errors-eq0 c = some_errors c.args.errors c.if-errors-eq0.false
