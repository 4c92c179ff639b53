use mathlib.Core.Path.{ap}
use native.Mathlib.Omega.{arith}
use lib.ListN.{length}
use Rattle.decimal.proofs.Laws.{decimal_digit, one_more-digit, word-digits}
use Rattle.decimal.proofs.digits_of.Goals as goal

pub loop-rest-init : goal.loop-rest-init
loop-rest-init c = omega arith

pub overflow_add-digits : goal.overflow_add-digits
overflow_add-digits c = record { fits = omega (arith, c.loop-rest.invariant, word-digits c.args.n c.ranges.n.fits) }

pub loop-rest-smaller : goal.loop-rest-smaller
loop-rest-smaller c = omega arith

pub loop-rest-preserved : goal.loop-rest-preserved
loop-rest-preserved c = omega (arith, c.loop-rest.invariant, one_more-digit c.loop-rest.rest c.loop-rest-test.true)

pub returns : goal.returns
returns c = omega (arith, c.loop-rest.invariant, ap length (decimal_digit c.loop-rest.rest c.loop-rest-test.false))
