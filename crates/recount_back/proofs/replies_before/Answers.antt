use Rattle.std.proofs.Common.{rules}
use Rattle.recount_back.proofs.Laws.{replies_are, replies_within}
use Rattle.recount_back.proofs.replies_before.Goals as goal

pub fold-requires-clause-callable : goal.fold-requires-clause-callable
fold-requires-clause-callable c = λ j a below before. let most = replies_within c.args.sequence before (λ s a b h. search rules) in search rules

pub returns : goal.returns
returns c = replies_are c.args.sequence c.fold.ensures (λ s a b h. search rules)
