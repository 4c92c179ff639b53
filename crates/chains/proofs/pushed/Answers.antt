use native.Mathlib.Omega.{arith}
use borrow.Author.Tests.{ltb-true, ltb-false}
use Rattle.chains.proofs.Places.{after_room, after-full}
use borrow.Author.Rules.{rules}
use Rattle.chains.proofs.pushed.Goals as goal

pub returns-then-ring-lt-CAPACITY : goal.returns-then-ring-lt-CAPACITY
returns-then-ring-lt-CAPACITY c = (after_room 4096 _ (omega (arith, ltb-true)), record { head_in = search rules; len_in = omega (arith, ltb-true) })

pub returns : goal.returns
returns c = (after-full 4096 _ _ (omega (arith, ltb-false)) c.wrapped.ensures.0, record { head_in = c.wrapped.ensures.1; len_in = search rules })
