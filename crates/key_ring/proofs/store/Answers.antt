use native.Mathlib.Omega.{arith}
use borrow.Author.Tests.{ltb-true, ltb-false}
use Rattle.chains.proofs.Tests.{lt_true, lt_false}
use Rattle.key_ring.proofs.store.Goals as goal

pub returns-then-slot-lt-CAPACITY : goal.returns-then-slot-lt-CAPACITY
returns-then-slot-lt-CAPACITY c = rw (lt_true c.args.slot 4096 (omega (arith, ltb-true)))

pub returns-else-slot-lt-CAPACITY : goal.returns-else-slot-lt-CAPACITY
returns-else-slot-lt-CAPACITY c = rw (lt_false c.args.slot 4096 (omega (arith, ltb-false)))
