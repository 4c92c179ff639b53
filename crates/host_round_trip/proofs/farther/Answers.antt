use Rattle.round_trips.proofs.Steps.{fits_low, carries}
use Rattle.host_round_trip.proofs.farther.Goals as goal

pub returns-then-ns-room : goal.returns-then-ns-room
returns-then-ns-room c = fits_low c.args.high c.args.low c.args.ns c.ranges.low.fits c.if-ns-room.true

pub returns : goal.returns
returns c = carries c.args.high c.args.low c.args.ns c.ranges.low.fits c.ranges.ns.fits c.if-ns-room.false
