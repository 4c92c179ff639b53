use Rattle.std.proofs.Common.{ℕ, ◌-◌, map, get_or, ap, ◌∙◌, arith, rules}
use Rattle.exact_rank.specs.Rank.{at_rank, at_ranks, standing_at, back_ranks}
use Rattle.sample_passes.specs.Keys.{shifted}
use Rattle.exact_rank.proofs.Samples.{in_order-at, in_reverse-at}
use Rattle.exact_rank.proofs.Results.{four_same, four_at, map-after}
use Rattle.exact_rank.proofs.pick_four.Goals as goal

pub read_four-requires : goal.read_four-requires
read_four-requires c = λ k l. omega (arith, c.requires.1 k l, c.requires.0)

pub returns-then-in_order : goal.returns-then-in_order
unfolding standing_at at_ranks
returns-then-in_order c =
    c.read_four.ensures
    ∙ four_same (λ (rank : ℕ). get_or c.args.samples.now rank 0) (at_rank (shifted c.args.bias) c.args.samples.now c.args.count)
    c.args.ranks (search rules)
    (λ k l. in_order-at (shifted c.args.bias) c.args.samples.now c.args.count (get_or c.args.ranks k 0)
    c.requires.0 (c.requires.1 k l) (c.in_order.ensures c.if-in_order.true))

pub back_ranks-requires : goal.back_ranks-requires
back_ranks-requires c = c.requires.1

pub read_four-requires-then-in_reverse : goal.read_four-requires-then-in_reverse
unfolding back_ranks
read_four-requires-then-in_reverse c = λ k l.
    rw (c.back_ranks.ensures, four_at (λ (rank : ℕ). c.args.count - 1 - rank) c.args.ranks (search rules) k l)
    (omega (arith, c.requires.1 k l, c.requires.0))

pub returns-then-in_reverse : goal.returns-then-in_reverse
unfolding standing_at back_ranks at_ranks
returns-then-in_reverse c =
    c.read_four-then-in_reverse.ensures
    ∙ ap (map (λ (rank : ℕ). get_or c.args.samples.now rank 0)) c.back_ranks.ensures
    ∙ map-after (λ (rank : ℕ). get_or c.args.samples.now rank 0) (λ (rank : ℕ). c.args.count - 1 - rank) c.args.ranks
    ∙ four_same (λ (rank : ℕ). get_or c.args.samples.now (c.args.count - 1 - rank) 0)
    (at_rank (shifted c.args.bias) c.args.samples.now c.args.count) c.args.ranks (search rules)
    (λ k l. in_reverse-at c.args.bias c.args.samples.now c.args.count (get_or c.args.ranks k 0)
    c.requires.0 (λ i. omega (arith, c.type_inv.samples i)) (c.requires.1 k l)
    (c.in_reverse.ensures c.if-in_reverse.true))
