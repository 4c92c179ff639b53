use Rattle.std.proofs.Common.{◌≡◌, ◌+◌, arith}
use Rattle.sample_passes.specs.Keys.{shifted}
use Rattle.sample_passes.proofs.Tallies.{one_more, not_full, none_yet}
use Rattle.sample_passes.proofs.around.Goals as goal

pub loop-i-init : goal.loop-i-init
loop-i-init c = (omega arith, omega arith, none_yet (shifted c.args.bias) c.args.value c.args.samples.now, none_yet (shifted c.args.bias) (c.args.value + 1) c.args.samples.now)

pub overflow_add-under : goal.overflow_add-under
overflow_add-under c =
    let a = c.args in
    let l = c.loop-i in
    omega (arith, not_full (shifted a.bias) a.value a.samples.now l.i l.under c.key-k.result c.one_below-under.result l.invariant.2 c.one_below-under.ensures a.count c.loop-i-test.true c.ranges.count.fits)

pub overflow_add-reach : goal.overflow_add-reach
overflow_add-reach c =
    let a = c.args in
    let l = c.loop-i in
    omega (arith, not_full (shifted a.bias) (a.value + 1) a.samples.now l.i l.reach c.key-k.result c.one_through-reach.result l.invariant.3 c.one_through-reach.ensures a.count c.loop-i-test.true c.ranges.count.fits)

pub loop-i-preserved : goal.loop-i-preserved
loop-i-preserved c =
    let a = c.args in
    let l = c.loop-i in (
      omega arith,
      omega arith,
      one_more (shifted a.bias) a.value a.samples.now l.i l.under c.key-k.result c.one_below-under.result l.invariant.2 c.one_below-under.ensures (omega arith) c.key-k.ensures,
      one_more (shifted a.bias) (a.value + 1) a.samples.now l.i l.reach c.key-k.result c.one_through-reach.result l.invariant.3 c.one_through-reach.ensures (omega arith) c.key-k.ensures,
    )

pub returns : goal.returns
returns c =
    let e : c.loop-i.i ≡ c.args.count = omega arith in
    (rw e at c.loop-i.invariant.2, rw e at c.loop-i.invariant.3)
