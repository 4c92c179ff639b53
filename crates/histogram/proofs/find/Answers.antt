use Rattle.std.proofs.Common.{◌≡◌, ◌∙◌, sym, arith, length}
use Rattle.histogram.proofs.Sums.{at_here, at_next, at_end, left_here, left-next, left_end}
use Rattle.histogram.proofs.find.Goals as goal

pub returns-then-left-here : goal.returns-then-left-here
returns-then-left-here c =
    let l = c.loop-place in
    let b = c.args.buckets.now in
    let t = c.loop-place-test.true in
    (sym (at_here b l.place l.left t c.if-left-here.true) ∙ l.invariant.0, sym (left_here b l.place l.left t c.if-left-here.true) ∙ l.invariant.1)

pub loop-place-preserved : goal.loop-place-preserved
loop-place-preserved c =
    let l = c.loop-place in
    let b = c.args.buckets.now in
    let t = c.loop-place-test.true in
    (sym (at_next b l.place l.left t c.if-left-here.false) ∙ l.invariant.0, sym (left-next b l.place l.left t c.if-left-here.false) ∙ l.invariant.1)

pub returns : goal.returns
returns c =
    let l = c.loop-place in
    let b = c.args.buckets.now in
    let e : length b ≡ l.place = omega arith in
    (e ∙ sym (at_end b l.place l.left c.loop-place-test.false) ∙ l.invariant.0, sym (left_end b l.place l.left c.loop-place-test.false) ∙ l.invariant.1)
