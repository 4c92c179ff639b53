use Rattle.std.proofs.Common.{arith}
use Rattle.host_ledger.specs.Parts.{replies_at}
use Rattle.host_unique_reply.proofs.Laws.{still-low, order_same, numbered-as}
use Rattle.host_unique_reply.proofs.number.Goals as goal

pub order-requires : goal.order-requires
unfolding replies_at
order-requires c = c.requires.reordered

pub raise_if-requires : goal.raise_if-requires
unfolding replies_at
raise_if-requires c = (omega arith, still-low _ _ (order_same c.args.ledger.now _ _ c.order.ensures 22 (omega arith)) c.requires.independent)

pub returns : goal.returns
returns c = numbered-as c.args.ledger.now _ _ _ _ c.order.ensures c.raise_if.ensures
