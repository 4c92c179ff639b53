use Rattle.host_quantiles.proofs.Answers.{fresh-said}
use Rattle.host_quantiles.proofs.ambrulicciu_quantiles_fresh.Goals as goal

pub returns : goal.returns
returns c = fresh-said c.args.quantiles.now c.args.signed _ c.flag.ensures.0
