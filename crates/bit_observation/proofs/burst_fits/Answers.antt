use Rattle.bit_observation.proofs.Laws.{burst_more, burst-none, burst_some, burst-absent}
use Rattle.bit_observation.proofs.burst_fits.Goals as goal

pub returns-then-n-count : goal.returns-then-n-count
returns-then-n-count c =
    let a = c.args in
    burst_more a.wanted a.count _ a.burst c.in-Some.is c.if-n-count.true

pub returns-then-n-eq0 : goal.returns-then-n-eq0
returns-then-n-eq0 c =
    let a = c.args in
    burst-none a.wanted a.count _ a.burst c.in-Some.is c.if-n-count.false c.if-n-eq0.true

pub returns-else-n-eq0 : goal.returns-else-n-eq0
returns-else-n-eq0 c =
    let a = c.args in
    burst_some a.wanted a.count _ a.burst c.in-Some.is c.if-n-count.false c.if-n-eq0.false

pub returns-in-None : goal.returns-in-None
returns-in-None c =
    let a = c.args in
    burst-absent a.wanted a.count a.burst c.in-None.is
