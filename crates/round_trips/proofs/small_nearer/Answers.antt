use Rattle.round_trips.proofs.Steps.{small_turns, small_stays}
use Rattle.round_trips.proofs.small_nearer.Goals as goal

pub returns-then-low-ns : goal.returns-then-low-ns
returns-then-low-ns c =
    let s = c.before in
    let a = s.args in
    small_turns a.low a.ns s.ranges.ns.fits c.if-low-ns.true

pub returns : goal.returns
returns c =
    let s = c.before in
    let a = s.args in
    small_stays a.low a.ns s.ranges.low.fits c.if-low-ns.false
