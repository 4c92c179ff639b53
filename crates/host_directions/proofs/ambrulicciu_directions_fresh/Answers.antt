use Rattle.host_directions.proofs.Answers.{fresh-said}
use Rattle.host_directions.proofs.ambrulicciu_directions_fresh.Goals as goal

pub returns : goal.returns
returns c = fresh-said c.args.directions.now _ _ c.new.ensures c.store.ensures
