use Rattle.std.proofs.Common.{◌≡◌, arith, rules}
use Rattle.sample_passes.proofs.Ends.{nearer_one}
use Rattle.sample_passes.proofs.least.Goals as goal

pub loop-i-init : goal.loop-i-init
loop-i-init c = (omega arith, omega arith, omega arith, c.least_of_blocks-distance.ensures.0, c.least_of_blocks-distance.ensures.1)

pub loop-i-preserved : goal.loop-i-preserved
loop-i-preserved c = (
  omega arith,
  omega arith,
  omega arith,
  omega (arith, c.shorter-distance.ensures.0, c.loop-i.invariant.3),
  (nearer_one c.args.bias c.args.samples.now c.loop-i.i (omega arith) c.past.result c.loop-i.distance c.shorter-distance.result (search rules) c.shorter-distance.ensures c.args.low c.past.ensures).1 c.args.high (omega arith) (search rules) c.loop-i.invariant.3 c.loop-i.invariant.4,
)

pub returns : goal.returns
returns c =
    let e : c.loop-i.i ≡ c.args.count = omega arith in
    rw e at c.loop-i.invariant.4
