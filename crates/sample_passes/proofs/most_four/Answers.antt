use Rattle.std.proofs.Common.{◌+◌, arith, rules}
use Rattle.sample_passes.specs.Keys.{shifted}
use Rattle.sample_passes.proofs.Ends.{shorter_one, shorter_on}
use Rattle.sample_passes.proofs.most_four.Goals as goal

pub returns : goal.returns
returns c =
    shorter_on (shifted c.args.bias) c.args.samples.now c.args.i 3 1 c.args.high c.args.distance c.shorter-third.result c.shorter.result
    (shorter_on (shifted c.args.bias) c.args.samples.now c.args.i 2 1 c.args.high c.args.distance c.shorter-second.result c.shorter-third.result
    (shorter_on (shifted c.args.bias) c.args.samples.now c.args.i 1 1 c.args.high c.args.distance c.shorter-first.result c.shorter-second.result
    (shorter_one c.args.bias c.args.samples.now c.args.i (omega arith) c.short_of.result c.args.distance c.shorter-first.result (search rules) c.shorter-first.ensures c.args.high (search rules) c.short_of.ensures)
    (shorter_one c.args.bias c.args.samples.now (c.args.i + 1) (omega arith) c.short_of-2.result c.shorter-first.result c.shorter-second.result (search rules) c.shorter-second.ensures c.args.high (search rules) c.short_of-2.ensures))
    (shorter_one c.args.bias c.args.samples.now (c.args.i + 2) (omega arith) c.short_of-3.result c.shorter-second.result c.shorter-third.result (search rules) c.shorter-third.ensures c.args.high (search rules) c.short_of-3.ensures))
    (shorter_one c.args.bias c.args.samples.now (c.args.i + 3) (omega arith) c.short_of-4.result c.shorter-third.result c.shorter.result (search rules) c.shorter.ensures c.args.high (search rules) c.short_of-4.ensures)
