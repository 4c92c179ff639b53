use Rattle.std.proofs.Common.{rules}
use Rattle.recount_trips.proofs.Laws.{trips-start, trips-turn, trips-most}
use Rattle.recount_trips.proofs.round_trips.Goals as goal

pub loop-j-init : goal.loop-j-init
loop-j-init c = (trips-start _ _, search rules)

pub loop-j-preserved : goal.loop-j-preserved
loop-j-preserved c = (
  trips-turn _ _ _ _ _ _ c.observation_at.ensures c.trips_next-t.ensures c.loop-j.invariant.0,
  trips-most c.observation_at.result c.loop-j.t c.trips_next-t.result c.loop-j.j c.trips_next-t.ensures c.loop-j.invariant.1,
)
