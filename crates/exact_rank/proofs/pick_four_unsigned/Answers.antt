use Rattle.std.proofs.Common.{◌-◌, ◌∙◌, arith}
use Rattle.exact_rank.proofs.Samples.{shifted-unsigned_all}
use Rattle.exact_rank.proofs.pick_four_unsigned.Goals as goal

pub returns : goal.returns
returns c =
    c.pick_four.ensures
    ∙ shifted-unsigned_all
    c.args.samples.now
    c.args.count
    c.requires.0
    (λ i. omega (arith, c.type_inv.samples i))
    c.args.ranks
