use Rattle.area_observation.proofs.Laws.{no_counters, some_counters}
use Rattle.area_observation.proofs.counters_from.Goals as goal

pub returns-then-at-eq0 : goal.returns-then-at-eq0
returns-then-at-eq0 c = no_counters c.args.bytes.now c.args.at c.if-at-eq0.true

pub counters_at-requires : goal.counters_at-requires
counters_at-requires c = c.requires c.if-at-eq0.false

pub returns : goal.returns
returns c = some_counters c.args.bytes.now c.args.at _ c.if-at-eq0.false c.counters_at.ensures
