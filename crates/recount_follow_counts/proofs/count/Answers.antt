use Rattle.std.proofs.Common.{rules}
use Rattle.recount_counts.proofs.Laws.{passing_is}
use Rattle.recount_follow_counts.proofs.count.Goals as goal

pub returns : goal.returns
returns c = passing_is _ _ _ c.count_where.ensures (λ j b h. search rules)
