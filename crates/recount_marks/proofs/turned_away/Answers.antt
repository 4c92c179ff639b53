use Rattle.std.proofs.Common.{rules}
use Rattle.recount_marks.proofs.Laws.{turned_is}
use Rattle.recount_marks.proofs.turned_away.Goals as goal

pub returns : goal.returns
returns c = turned_is _ c.count_where.ensures (λ j b h. search rules)
