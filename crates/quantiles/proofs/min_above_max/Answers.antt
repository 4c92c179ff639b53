use mathlib.Core.Path.{ap}
use mathlib.Core.Bool.{Bool, ◌&&◌}
use lib.Dec.{ltb}
use Rattle.quantiles.proofs.min_above_max.Goals as goal

pub returns : goal.returns
returns c = ap (λ (t : Bool). ltb 0 c.args.q.count && t) c.above-crossed.ensures
