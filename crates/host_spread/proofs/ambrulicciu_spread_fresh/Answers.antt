use Rattle.host_spread.proofs.Answers.{fresh-said}
use Rattle.host_spread.proofs.ambrulicciu_spread_fresh.Goals as goal

pub returns : goal.returns
returns c = fresh-said c.args.spread.now _ _ c.new.ensures c.store.ensures
