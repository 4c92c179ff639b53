use Rattle.recount_lines.proofs.Laws.{known}
use Rattle.recount_lines.proofs.thousandths_of.Goals as goal

pub returns : goal.returns
returns c = known _ _ c.if-requested-eq0.false
