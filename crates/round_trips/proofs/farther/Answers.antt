use Rattle.round_trips.proofs.Steps.{fits_low, carries}
use Rattle.round_trips.proofs.farther.Goals as goal

pub returns-then-ns-room : goal.returns-then-ns-room
returns-then-ns-room c =
    let s = c.before in
    let a = s.args in
    fits_low a.high a.low a.ns s.ranges.low.fits c.if-ns-room.true

pub returns : goal.returns
returns c =
    let s = c.before in
    let a = s.args in
    carries a.high a.low a.ns s.ranges.low.fits s.ranges.ns.fits c.if-ns-room.false
