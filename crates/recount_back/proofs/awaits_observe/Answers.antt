use Rattle.std.proofs.Common.{rules}
use Rattle.recount_back.proofs.Laws.{awaits_is}
use Rattle.recount_back.proofs.awaits_observe.Goals as goal

pub returns : goal.returns
returns c = awaits_is c.fold.ensures c.args.key (λ s a b h. search rules)
