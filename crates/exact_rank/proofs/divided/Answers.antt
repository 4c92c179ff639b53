use Rattle.std.proofs.Common.{◌-◌, take, arith}
use Rattle.sample_passes.specs.Keys.{shifted}
use Rattle.sample_passes.proofs.Counting.{below-take-most}
use Rattle.exact_rank.proofs.Steps.{leads_all, all_led-stepped}
use Rattle.exact_rank.proofs.divided.Goals as goal

-- Assumes nothing.
pub least-low-requires : goal.least-low-requires
least-low-requires c = (c.requires.0, c.requires.1.first.ordered)

pub most-high-requires : goal.most-high-requires
most-high-requires c = (c.requires.0, c.least-low.ensures.to)

pub all_led-requires : goal.all_led-requires
all_led-requires c = (
  c.shift_of-shift.ensures.0,
  leads_all (shifted c.args.bias) (take c.args.count c.args.samples.now) c.args.four c.requires.1 c.requires.2
      c.digits-counts.result c.least-low.result c.most-high.result c.shift_of-shift.result
      c.least-low.ensures c.most-high.ensures c.digits-counts.ensures c.shift_of-shift.ensures.1
      (λ k. omega (arith, below-take-most (shifted c.args.bias) k c.args.samples.now c.args.count, c.ranges.count.fits)),
)

pub returns : goal.returns
returns c =
    all_led-stepped (shifted c.args.bias) (take c.args.count c.args.samples.now) c.args.four c.requires.1 c.requires.2
    c.digits-counts.result c.least-low.result c.most-high.result c.shift_of-shift.result
    c.least-low.ensures c.most-high.ensures c.digits-counts.ensures c.shift_of-shift.ensures.1
    (λ k. omega (arith, below-take-most (shifted c.args.bias) k c.args.samples.now c.args.count, c.ranges.count.fits)) _ c.shift_of-shift.ensures.2 c.all_led.ensures
