use Rattle.std.proofs.Common.{◌-◌, take, arith}
use Rattle.sample_passes.specs.Keys.{shifted}
use Rattle.exact_rank.proofs.Stepping.{least-key, most-key}
use Rattle.exact_rank.proofs.Steps.{all_ended-stepped}
use Rattle.exact_rank.proofs.step.Goals as goal

pub returns-then-node : goal.returns-then-node
returns-then-node c =
    all_ended-stepped (shifted c.args.bias) (take c.args.count c.args.samples.now) c.args.four c.requires.1 c.requires.2 _ _
    (least-key (shifted c.args.bias) (take c.args.count c.args.samples.now) c.args.four.first _
    c.requires.1.first c.requires.2 c.if-node.true c.least.ensures)
    c.all_ended.ensures

pub overflow_sub-node : goal.overflow_sub-node
overflow_sub-node c = omega (arith, c.requires.1.first.through_is c.requires.2, c.requires.1.first.enough_through)

pub returns-then-node-eq1 : goal.returns-then-node-eq1
returns-then-node-eq1 c =
    all_ended-stepped (shifted c.args.bias) (take c.args.count c.args.samples.now) c.args.four c.requires.1 c.requires.2 _ _
    (most-key (shifted c.args.bias) (take c.args.count c.args.samples.now) c.args.four.first _
    c.requires.1.first c.requires.2 (omega (arith, c.if-node-eq1.true)) c.most.ensures)
    c.all_ended-then-node-eq1.ensures
