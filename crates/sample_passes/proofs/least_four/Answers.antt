use Rattle.std.proofs.Common.{◌+◌, arith, rules}
use Rattle.sample_passes.specs.Keys.{shifted}
use Rattle.sample_passes.proofs.Ends.{nearer_one, nearer_on}
use Rattle.sample_passes.proofs.least_four.Goals as goal

pub returns : goal.returns
returns c =
    nearer_on (shifted c.args.bias) c.args.samples.now c.args.i 3 1 c.args.low c.args.distance c.shorter-third.result c.shorter.result
    (nearer_on (shifted c.args.bias) c.args.samples.now c.args.i 2 1 c.args.low c.args.distance c.shorter-second.result c.shorter-third.result
    (nearer_on (shifted c.args.bias) c.args.samples.now c.args.i 1 1 c.args.low c.args.distance c.shorter-first.result c.shorter-second.result
    (nearer_one c.args.bias c.args.samples.now c.args.i (omega arith) c.past.result c.args.distance c.shorter-first.result (search rules) c.shorter-first.ensures c.args.low c.past.ensures)
    (nearer_one c.args.bias c.args.samples.now (c.args.i + 1) (omega arith) c.past-2.result c.shorter-first.result c.shorter-second.result (search rules) c.shorter-second.ensures c.args.low c.past-2.ensures))
    (nearer_one c.args.bias c.args.samples.now (c.args.i + 2) (omega arith) c.past-3.result c.shorter-second.result c.shorter-third.result (search rules) c.shorter-third.ensures c.args.low c.past-3.ensures))
    (nearer_one c.args.bias c.args.samples.now (c.args.i + 3) (omega arith) c.past-4.result c.shorter-third.result c.shorter.result (search rules) c.shorter.ensures c.args.low c.past-4.ensures)
