use Rattle.bit_summary.proofs.Steps.{longer, not_longer, first}
use Rattle.bit_summary.proofs.greater_burst.Goals as goal

pub returns-then-most-bits : goal.returns-then-most-bits
returns-then-most-bits c =
    let a = c.args in
    longer a.burst _ a.bits c.in-Some.is c.if-most-bits.true

pub returns-else-most-bits : goal.returns-else-most-bits
returns-else-most-bits c =
    let a = c.args in
    not_longer a.burst _ a.bits c.in-Some.is c.if-most-bits.false

pub returns-in-None : goal.returns-in-None
returns-in-None c =
    let a = c.args in
    first a.burst a.bits c.in-None.is
