use native.Mathlib.Omega.{arith}
use Rattle.bit_pattern.proofs.Laws.{too_short, prefixed, another_first, another_second}
use Rattle.bit_pattern.proofs.prefix_length.Goals as goal

pub returns-then-text-lt2 : goal.returns-then-text-lt2
returns-then-text-lt2 c = (omega arith, too_short c.args.text.now c.if-text-lt2.true)

pub returns-then-text-eq120 : goal.returns-then-text-eq120
returns-then-text-eq120 c = (omega arith, prefixed c.args.text.now c.if-text-eq48.true c.if-text-eq120.true)

pub returns-else-text-eq120 : goal.returns-else-text-eq120
returns-else-text-eq120 c = (omega arith, another_second c.args.text.now c.if-text-eq120.false)

pub returns-else-text-eq48 : goal.returns-else-text-eq48
returns-else-text-eq48 c = (omega arith, another_first c.args.text.now c.if-text-eq48.false)
