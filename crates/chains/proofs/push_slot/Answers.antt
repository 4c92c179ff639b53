use mathlib.Core.Path.{◌∙◌}
use native.Mathlib.Omega.{arith}
use borrow.Author.Tests.{ltb-true, ltb-false}
use Rattle.chains.proofs.Places.{slot_room, slot_full}
use borrow.Author.Rules.{rules}
use Rattle.chains.proofs.push_slot.Goals as goal

pub returns-then-ring-lt-CAPACITY : goal.returns-then-ring-lt-CAPACITY
returns-then-ring-lt-CAPACITY c = (c.wrapped.ensures.0 ∙ slot_room 4096 _ (omega (arith, ltb-true)), c.wrapped.ensures.1)

pub returns : goal.returns
returns c = (slot_full 4096 _ (omega (arith, ltb-false)), search rules)
