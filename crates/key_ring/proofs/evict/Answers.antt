use native.Mathlib.Omega.{arith}
use borrow.Author.Tests.{ltb-true, ltb-false}
use Rattle.key_ring.proofs.Steps.{evict_room, evict_nobody, evict_lowers}
use Rattle.key_ring.proofs.evict.Goals as goal

-- Assumes nothing.
pub returns-then-ring-lt-CAPACITY : goal.returns-then-ring-lt-CAPACITY
returns-then-ring-lt-CAPACITY c = evict_room c.args.secret c.args.keys.now c.args.slots.now c.args.links.now c.args.ring (omega (arith, ltb-true))

pub returns-then-at-lt-CAPACITY : goal.returns-then-at-lt-CAPACITY
returns-then-at-lt-CAPACITY c = evict_lowers c.args.secret c.args.keys.now c.args.slots.now c.args.links.now c.args.ring _ _ (omega (arith, ltb-false)) c.holder-at.ensures (omega (arith, ltb-true)) c.lower_word.ensures

pub returns-else-at-lt-CAPACITY : goal.returns-else-at-lt-CAPACITY
returns-else-at-lt-CAPACITY c = evict_nobody c.args.secret c.args.keys.now c.args.slots.now c.args.links.now c.args.ring _ (omega (arith, ltb-false)) c.holder-at.ensures (omega (arith, ltb-false))
