use Rattle.std.proofs.Common.{rules}
use Rattle.recount_back.proofs.Laws.{remembered_is}
use Rattle.recount_back.proofs.was_remembered.Goals as goal

pub returns : goal.returns
returns c = remembered_is c.fold.ensures c.args.sequence (λ s a b h. search rules)
