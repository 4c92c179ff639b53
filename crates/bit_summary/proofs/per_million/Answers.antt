use Rattle.bit_summary.proofs.Steps.{times}
use Rattle.bit_summary.proofs.per_million.Goals as goal

pub returns-in-Some : goal.returns-in-Some
returns-in-Some c = times c.args.ratio _ c.in-Some.is
