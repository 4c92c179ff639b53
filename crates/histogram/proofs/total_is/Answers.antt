use Rattle.std.proofs.Common.{ℕ, ◌+◌, ◌∙◌, ap, sym, arith, get_or}
use Rattle.histogram.specs.Histogram.{total}
use Rattle.histogram.proofs.Sums.{total-none, total-next, halves, halves_next}
use Rattle.histogram.proofs.total_is.Goals as goal
use lib.Seq.{take_all}

pub loop-here-init : goal.loop-here-init
loop-here-init c = (total-none, omega arith, omega arith, c.requires)

pub loop-here-preserved : goal.loop-here-preserved
loop-here-preserved c =
    let l = c.loop-here in
    let b = c.args.buckets.now in
    let h = halves_next l.here-index l.low l.high (get_or b l.here-index 0) l.invariant.1 l.invariant.2 (c.type_inv.buckets l.here-index).fits in (
      h.0 ∙ ap (λ (x : ℕ). x + get_or b l.here-index 0) l.invariant.0 ∙ sym (total-next l.here-index b c.loop-here-test.true),
      h.1,
      h.2,
      l.invariant.3,
    )

pub returns : goal.returns
returns c =
    let b = c.args.buckets.now in
    halves c.loop-here.low c.loop-here.high (total b) c.args.count (c.loop-here.invariant.0 ∙ ap total (take_all c.loop-here.here-index b c.loop-here-test.false))
