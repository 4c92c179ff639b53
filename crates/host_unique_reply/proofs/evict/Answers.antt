use Rattle.std.proofs.Common.{◌∙◌, arith}
use Rattle.host_ledger.specs.Parts.{replies_at}
use Rattle.host_unique_reply.proofs.Laws.{after-raised, still-low, evicted_as}
use Rattle.host_unique_reply.proofs.evict.Goals as goal

pub raise_if-requires : goal.raise_if-requires
unfolding replies_at
raise_if-requires c = (omega arith, c.requires.probes)

pub raise_if-requires-2 : goal.raise_if-requires-2
unfolding replies_at
raise_if-requires-2 c = (omega arith, still-low _ _ (after-raised _ _ 23 _ c.raise_if.ensures 24 (omega arith)) c.requires.replies)

pub raise_if-requires-3 : goal.raise_if-requires-3
unfolding replies_at
raise_if-requires-3 c = (
  omega arith,
  still-low _ _ (after-raised _ _ 24 _ c.raise_if-2.ensures 72 (omega arith) ∙ after-raised _ _ 23 _ c.raise_if.ensures 72 (omega arith))
      c.requires.unanswered,
)

pub returns : goal.returns
returns c = evicted_as _ _ _ _ _ _ _ c.raise_if.ensures c.raise_if-2.ensures c.raise_if-3.ensures
