use Rattle.std.proofs.Common.{ℕ, ◌-◌, arith, rules}
use Rattle.exact_rank.specs.Rank.{back_ranks}
use Rattle.exact_rank.proofs.Results.{four_results}
use Rattle.exact_rank.proofs.back_ranks.Goals as goal

pub back_rank-requires : goal.back_rank-requires
back_rank-requires c = c.requires 0 (omega arith)

pub back_rank-requires-2 : goal.back_rank-requires-2
back_rank-requires-2 c = c.requires 1 (omega arith)

pub back_rank-requires-3 : goal.back_rank-requires-3
back_rank-requires-3 c = c.requires 2 (omega arith)

pub back_rank-requires-4 : goal.back_rank-requires-4
back_rank-requires-4 c = c.requires 3 (omega arith)

pub returns : goal.returns
unfolding back_ranks
returns c =
    four_results (λ (rank : ℕ). c.args.count - 1 - rank) c.args.ranks _ _ _ _ (search rules)
    c.back_rank.ensures c.back_rank-2.ensures c.back_rank-3.ensures c.back_rank-4.ensures
