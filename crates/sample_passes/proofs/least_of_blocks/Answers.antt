use Rattle.std.proofs.Common.{◌≡◌, ◌+◌, ◌-◌, ◌%◌, refl, arith, rules}
use Rattle.sample_passes.specs.Keys.{shifted}
use Rattle.sample_passes.proofs.Ends.{least-none, least-at-low}
use Rattle.sample_passes.proofs.least_of_blocks.Goals as goal

pub loop-i-init : goal.loop-i-init
loop-i-init c =
    let e : c.args.low + (c.args.high - c.args.low) ≡ c.args.high = omega arith in (
      omega arith,
      omega arith,
      omega arith,
      refl,
      omega arith,
      rw e (least-none (shifted c.args.bias) c.args.samples.now c.args.low c.args.high (omega arith)),
    )

pub returns-then-distance-eq0 : goal.returns-then-distance-eq0
returns-then-distance-eq0 c =
    let z : c.args.low + c.least_four-distance.result ≡ c.args.low = omega (arith, c.if-distance-eq0.true) in
    let e : c.loop-i.i + 4 + (c.args.count - c.args.count % 4 - (c.loop-i.i + 4)) ≡ c.args.count - c.args.count % 4 = omega (arith, c.loop-i.invariant.3) in (
      omega (arith, c.least_four-distance.ensures.0, c.loop-i.invariant.4),
      rw z
          (rw e at
          (least-at-low (shifted c.args.bias) c.args.samples.now c.args.low c.args.high (c.loop-i.i + 4) (c.args.count - c.args.count % 4 - (c.loop-i.i + 4)) (omega (arith, c.loop-i.invariant.3))
          (rw z at (c.least_four-distance.ensures.1 c.args.high (omega arith) (search rules) c.loop-i.invariant.4 c.loop-i.invariant.5)))),
    )

pub loop-i-preserved : goal.loop-i-preserved
loop-i-preserved c = (
  omega arith,
  omega arith,
  omega arith,
  omega (arith, c.loop-i.invariant.3),
  omega (arith, c.least_four-distance.ensures.0, c.loop-i.invariant.4),
  c.least_four-distance.ensures.1 c.args.high (omega arith) (search rules) c.loop-i.invariant.4 c.loop-i.invariant.5,
)

pub returns : goal.returns
returns c =
    let e : c.loop-i.i ≡ c.args.count - c.args.count % 4 = omega (arith, c.loop-i.invariant.3) in
    (c.loop-i.invariant.4, rw e at c.loop-i.invariant.5)
