use Rattle.std.proofs.Common.{◌≡◌, ℕ, arith, below_more}
use Rattle.sample_passes.proofs.in_reverse.Goals as goal

pub loop-i-init : goal.loop-i-init
loop-i-init c = (omega (arith, c.falling_blocks-i.ensures.0), omega arith, c.falling_blocks-i.ensures.1)

pub returns-then-key : goal.returns-then-key
returns-then-key c = λ e. absurd (let z : ◌≡◌ {A = ℕ} 0 1 = cc in omega arith)

pub loop-i-preserved : goal.loop-i-preserved
loop-i-preserved c = (
  omega arith,
  omega arith,
  below_more _ _ c.loop-i.invariant.2
      (omega (arith, c.if-key.false, c.key-in-loop-i.ensures, c.key.ensures)),
)

pub returns : goal.returns
returns c = λ e k l. c.loop-i.invariant.2 k (omega (arith, l))
