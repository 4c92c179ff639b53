use native.Mathlib.Omega.{arith}
use Rattle.host_own_slot.proofs.Laws.{wires_as, no_wires_as, shifted-below}
use Rattle.host_own_slot.proofs.wires.Goals as goal

pub returns-then-has : goal.returns-then-has
returns-then-has c = (wires_as _ _ _ _ c.wide.ensures.0 c.wide.ensures.1 c.has.ensures c.if-has.true, shifted-below _ c.wide.ensures.1)

pub returns : goal.returns
returns c = (no_wires_as _ _ _ c.has.ensures c.if-has.false, omega arith)
