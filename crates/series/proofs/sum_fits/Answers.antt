use Rattle.std.proofs.Common.{sym, rules}
use Rattle.delays.proofs.Signs.{high_bound}
use Rattle.series.proofs.sum_fits.Goals as goal

pub returns : goal.returns
returns c =
    let s = c.args.sum in
    sym (high_bound s.high s.low (search rules))
