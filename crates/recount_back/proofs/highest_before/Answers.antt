use Rattle.std.proofs.Common.{rules}
use Rattle.recount_back.proofs.Laws.{highest_is}
use Rattle.recount_back.proofs.highest_before.Goals as goal

pub returns : goal.returns
returns c = highest_is c.fold.ensures (λ s a b h. search rules)
