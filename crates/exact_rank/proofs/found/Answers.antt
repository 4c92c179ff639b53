use Rattle.std.proofs.Common.{◌-◌, arith}
use Rattle.exact_rank.proofs.Steps.{all_follow_self, all_follow_on, all_inside}
use Rattle.exact_rank.proofs.found.Goals as goal

pub loop-moved-init : goal.loop-moved-init
loop-moved-init c = (c.requires.0, all_follow_self _ _ _ c.requires.1)

pub step-moved-requires : goal.step-moved-requires
step-moved-requires c = (c.requires.0, all_inside _ _ _ _ c.loop-moved.invariant.1, c.loop-moved-test.true)

pub loop-moved-smaller : goal.loop-moved-smaller
loop-moved-smaller c = c.step-moved.ensures.narrower

pub loop-moved-preserved : goal.loop-moved-preserved
loop-moved-preserved c = (c.requires.0, all_follow_on _ _ _ _ _ c.loop-moved.invariant.1 c.step-moved.ensures.all)

pub returns : goal.returns
returns c = (c.loop-moved.invariant.1, omega (arith, c.loop-moved-test.false, c.loop-moved.invariant.1.first.inside.ordered))
