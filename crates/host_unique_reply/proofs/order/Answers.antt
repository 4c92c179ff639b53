use Rattle.std.proofs.Common.{arith}
use Rattle.host_unique_reply.proofs.Laws.{behind-ordered, ahead-ordered}
use Rattle.host_unique_reply.proofs.order.Goals as goal

pub returns-then-is_behind : goal.returns-then-is_behind
returns-then-is_behind c =
    behind-ordered c.args.ledger.now _ _ c.is_behind.ensures _ _ _ c.if-is_behind.true c.low.ensures c.number_word.ensures c.number_word-then-is_behind.ensures

pub returns : goal.returns
returns c =
    ahead-ordered c.args.ledger.now _ _ c.is_behind.ensures _ _ (omega (arith, c.ranges.reflector.fits)) c.if-is_behind.false c.number_word.ensures c.number_word-2.ensures
