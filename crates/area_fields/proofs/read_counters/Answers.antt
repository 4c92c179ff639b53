use Rattle.area_fields.proofs.Laws.{counters_there, counters_not}
use Rattle.area_fields.proofs.read_counters.Goals as goal

pub returns-then-value-eq12 : goal.returns-then-value-eq12
returns-then-value-eq12 c = counters_there c.args.value.now _ c.if-value-eq12.true c.counters_at.ensures

pub returns : goal.returns
returns c = counters_not c.args.value.now c.if-value-eq12.false
