use mathlib.Core.Path.{sym}
use native.Mathlib.Omega.{arith}
use borrow.Author.Tests.{ltb-true, ltb-false}
use Rattle.chains.proofs.Places.{wrap-low, wrap-high}
use Rattle.chains.proofs.wrapped.Goals as goal

-- Assumes nothing.
pub returns-then-i-lt-CAPACITY : goal.returns-then-i-lt-CAPACITY
returns-then-i-lt-CAPACITY c = (sym (wrap-low 4096 _ (omega (arith, ltb-true))), omega (arith, ltb-true))

pub returns-else-i-lt-CAPACITY : goal.returns-else-i-lt-CAPACITY
returns-else-i-lt-CAPACITY c = (sym (wrap-high 4096 _ (omega (arith, ltb-false))), omega (arith, ltb-false))
