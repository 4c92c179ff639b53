use Rattle.std.proofs.Common.{rules}
use Rattle.recount_back.proofs.Laws.{accepted_is}
use Rattle.recount_back.proofs.was_accepted.Goals as goal

pub returns : goal.returns
returns c = accepted_is c.fold.ensures c.args.key (λ s a b h. search rules)
