use Rattle.std.proofs.Common.{◌∙◌, arith}
use Rattle.host_ledger.specs.Parts.{replies_at}
use Rattle.host_unique_reply.proofs.Laws.{after-raised, still-low, four_raised}
use Rattle.host_unique_reply.proofs.answer.Goals as goal

pub raise_if-requires : goal.raise_if-requires
unfolding replies_at
raise_if-requires c = (omega arith, c.requires.answered)

pub raise_if-requires-2 : goal.raise_if-requires-2
unfolding replies_at
raise_if-requires-2 c = (omega arith, still-low _ _ (after-raised _ _ 15 _ c.raise_if.ensures 16 (omega arith)) c.requires.additional)

pub raise_if-requires-3 : goal.raise_if-requires-3
unfolding replies_at
raise_if-requires-3 c = (
  omega arith,
  still-low _ _ (after-raised _ _ 16 _ c.raise_if-2.ensures 17 (omega arith) ∙ after-raised _ _ 15 _ c.raise_if.ensures 17 (omega arith))
      c.requires.late,
)

pub raise_if-requires-4 : goal.raise_if-requires-4
unfolding replies_at
raise_if-requires-4 c = (
  omega arith,
  still-low _ _ (after-raised _ _ 17 _ c.raise_if-3.ensures 18 (omega arith) ∙ after-raised _ _ 16 _ c.raise_if-2.ensures 18 (omega arith) ∙ after-raised _ _ 15 _ c.raise_if.ensures 18 (omega arith))
      c.requires.satisfied,
)

pub returns : goal.returns
unfolding replies_at
returns c =
    four_raised _ _ _ _ _ _ _ _ _ c.raise_if.ensures c.raise_if-2.ensures c.raise_if-3.ensures c.raise_if-4.ensures
