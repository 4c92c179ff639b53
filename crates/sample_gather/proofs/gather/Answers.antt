use mathlib.Core.Path.{◌≡◌}
use native.Mathlib.Omega.{arith}
use lib.ListN.{length-set}
use borrow.Author.Rules.{rules}
use Rattle.sample_passes.specs.Keys.{shifted}
use Rattle.sample_gather.proofs.Gathering.{gathering_none, one_kept, one_passed, gathered_all}
use Rattle.sample_gather.proofs.gather.Goals as goal
use Rattle.sample_gather.proofs.gather.Goals.{else-d-span, then-d-span}

pub loop-i-init : goal.loop-i-init
loop-i-init c =
    let a = c.args in
    (omega arith, omega arith, omega arith, c.requires.2, gathering_none (shifted a.bias) a.samples.now a.low a.high a.keys.now)

pub loop-i-preserved : goal.loop-i-preserved
loop-i-preserved c =
    let a = c.args in
    let l = c.loop-i in
    let kept = one_kept a.bias a.samples.now a.low a.high (omega arith) (search rules) l.i (omega arith) c.past-d.result (search rules) c.past-d.ensures l.n l.keys l.invariant.4 in
    let passed = one_passed a.bias a.samples.now a.low a.high (omega arith) (search rules) l.i (omega arith) c.past-d.result (search rules) c.past-d.ensures l.n l.keys l.invariant.4 in (
      omega arith,
      omega arith,
      elim c.if-d-span.branch [ then-d-span w ↦ omega (arith, w.n-is, l.invariant.2) | else-d-span w ↦ omega (arith, w.n-is, l.invariant.2) ],
      elim c.if-d-span.branch [ then-d-span w ↦ rw (w.keys-is, length-set) l.invariant.3 | else-d-span w ↦ rw w.keys-is l.invariant.3 ],
      elim c.if-d-span.branch [ then-d-span w ↦ rw (w.keys-is, w.n-is) (kept (omega arith) l.invariant.3) | else-d-span w ↦ rw (w.keys-is, w.n-is) (passed w.if-d-span.false) ],
    )

pub returns : goal.returns
returns c =
    let e : c.loop-i.i ≡ c.args.count = omega arith in
    (gathered_all _ _ _ _ c.loop-i.n _ (rw e at c.loop-i.invariant.4), c.loop-i.invariant.3)
