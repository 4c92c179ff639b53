use Rattle.bit_observation.proofs.Laws.{not_refused, counted_is}
use Rattle.bit_observation.proofs.counted.Goals as goal

pub unreachable-requires : goal.unreachable-requires
unreachable-requires c = not_refused c.args.value.now c.args.pattern.now _ c.in-Err.ensures c.requires

pub returns : goal.returns
returns c = let a = c.args in counted_is a.value.now a.pattern.now a.count a.burst _ c.in-Ok.ensures
