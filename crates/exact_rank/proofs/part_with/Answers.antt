use Rattle.std.proofs.Common.{refl, inl, inr}
use Rattle.exact_rank.proofs.part_with.Goals as goal

pub returns-then-search-node-2 : goal.returns-then-search-node-2
returns-then-search-node-2 c = inl ((c.if-search-node.true, c.if-search-node-2.true), c.part.ensures)

pub returns-else-search-node-2 : goal.returns-else-search-node-2
returns-else-search-node-2 c = inr refl

pub returns-else-search-node : goal.returns-else-search-node
returns-else-search-node c = inr refl
