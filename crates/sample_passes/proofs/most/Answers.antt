use Rattle.std.proofs.Common.{◌≡◌, arith, rules}
use Rattle.sample_passes.proofs.Ends.{shorter_one}
use Rattle.sample_passes.proofs.most.Goals as goal

pub loop-i-init : goal.loop-i-init
loop-i-init c = (omega arith, omega arith, omega arith, c.most_of_blocks-distance.ensures.0, c.most_of_blocks-distance.ensures.1)

pub loop-i-preserved : goal.loop-i-preserved
loop-i-preserved c = (
  omega arith,
  omega arith,
  omega arith,
  omega (arith, c.shorter-distance.ensures.0, c.loop-i.invariant.3),
  (shorter_one c.args.bias c.args.samples.now c.loop-i.i (omega arith) c.short_of.result c.loop-i.distance c.shorter-distance.result (search rules) c.shorter-distance.ensures c.args.high (search rules) c.short_of.ensures).1 c.args.low (omega arith) c.loop-i.invariant.3 c.loop-i.invariant.4,
)

pub returns : goal.returns
returns c =
    let e : c.loop-i.i ≡ c.args.count = omega arith in
    rw e at c.loop-i.invariant.4
