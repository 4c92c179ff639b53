use Rattle.std.proofs.Common.{◌-◌, refl, inl, inr}
use Rattle.exact_rank.proofs.ended_with.Goals as goal

pub returns-then-search-node-3 : goal.returns-then-search-node-3
returns-then-search-node-3 c = inl ((c.if-search-node.true, c.if-search-node-2.true), c.if-search-node-3.true, c.ended.ensures)

pub returns-else-search-node-3 : goal.returns-else-search-node-3
returns-else-search-node-3 c = inr refl

pub returns-else-search-node-2 : goal.returns-else-search-node-2
returns-else-search-node-2 c = inr refl

pub returns-else-search-node : goal.returns-else-search-node
returns-else-search-node c = inr refl
