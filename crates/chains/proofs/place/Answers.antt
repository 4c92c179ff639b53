use native.Mathlib.Omega.{arith}
use borrow.Author.Tests.{ltb-true, ltb-false}
use Rattle.chains.proofs.Places.{place_down, place_up, place_out}
use Rattle.chains.proofs.place.Goals as goal

pub returns-then-link-head : goal.returns-then-link-head
returns-then-link-head c = place_down 4096 _ _ (omega (arith, ltb-true)) (omega (arith, ltb-true))

pub returns-then-link-lt-CAPACITY : goal.returns-then-link-lt-CAPACITY
returns-then-link-lt-CAPACITY c = place_up 4096 _ _ (omega (arith, ltb-true)) (omega (arith, ltb-false))

pub returns : goal.returns
returns c = place_out 4096 _ _ (omega (arith, ltb-false))
