use Rattle.std.proofs.Common.{arith}
use Rattle.sample_passes.proofs.Blocks.{below-block}
use Rattle.sample_passes.proofs.rising_blocks.Goals as goal

pub loop-i-init : goal.loop-i-init
loop-i-init c = (omega arith, omega arith, λ k l. absurd (omega (arith, l)))

pub returns-then-falls-ne0 : goal.returns-then-falls-ne0
returns-then-falls-ne0 c = (omega arith, c.loop-i.invariant.2)

pub loop-i-preserved : goal.loop-i-preserved
loop-i-preserved c = (omega arith, omega arith, below-block _ _ _ c.loop-i.invariant.2 (c.falls.ensures c.if-falls-ne0.false))

pub returns : goal.returns
returns c = (omega arith, c.loop-i.invariant.2)
