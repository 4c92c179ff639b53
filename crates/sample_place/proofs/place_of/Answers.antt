use mathlib.Core.Path.{◌≡◌}
use native.Mathlib.Omega.{arith}
use borrow.Author.Rules.{rules}
use Rattle.sample_passes.specs.Passes.{sum_to}
use Rattle.sample_passes.proofs.DigitCounts.{sum_more}
use Rattle.sample_place.proofs.place_of.Goals as goal

pub loop-digit-init : goal.loop-digit-init
unfolding sum_to
loop-digit-init c = search rules

pub returns-then-left-n : goal.returns-then-left-n
returns-then-left-n c =
    record { small = omega arith; split = c.loop-digit.invariant.2; within = omega (arith, c.if-left-n.true) }

pub loop-digit-preserved : goal.loop-digit-preserved
loop-digit-preserved c = (
  omega arith,
  omega arith,
  omega (
    arith,
    sum_more c.args.counts.now c.loop-digit.digit,
    c.if-left-n.false,
    c.loop-digit.invariant.2,
  ),
)

pub returns : goal.returns
returns c =
    let last : c.loop-digit.digit ≡ 255 = omega arith in
    let split = rw last at c.loop-digit.invariant.2 in
    record { small = omega arith; split = split; within = omega (arith, sum_more c.args.counts.now 255, c.loop-digit.invariant.1, split) }
