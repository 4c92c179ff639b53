use lib.IntN.{pos}
use Rattle.delays.specs.Sums.{nanoseconds_of}
use Rattle.delays.proofs.Steps.{together}
use Rattle.round_trips.proofs.recorded.Goals as goal

pub returns : goal.returns
returns c =
    let a = c.args in
    together a.before (nanoseconds_of (pos a.ns)) _ _ _ c.added.ensures c.lesser_of.ensures c.greater_of.ensures
