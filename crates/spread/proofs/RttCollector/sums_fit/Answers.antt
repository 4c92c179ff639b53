use Rattle.spread.proofs.Steps.{tested}
use Rattle.spread.proofs.RttCollector.sums_fit.Goals as goal

pub returns : goal.returns
returns c = tested c.args.self _ _ c.sum_fits.ensures c.sum_fits-2.ensures
