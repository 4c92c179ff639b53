use native.Mathlib.Omega.{arith}
use Rattle.area_write.proofs.Laws.{needed-step, needed-none, short_size, enough_size}
use Rattle.area_write.proofs.size_of.Goals as goal

pub returns-then-left-size : goal.returns-then-left-size
returns-then-left-size c =
    let l = c.loop-word in
    let a = c.args in
    short_size a.most a.items.now (omega (arith, c.length_of-size.ensures.0, needed-step a.items.now l.word-index (omega arith), l.invariant.1))

pub loop-word-preserved : goal.loop-word-preserved
loop-word-preserved c =
    let l = c.loop-word in
    let step = needed-step c.args.items.now l.word-index (omega arith) in
    (omega arith, omega (arith, c.length_of-size.ensures.0, step, l.invariant.1))

pub returns : goal.returns
returns c =
    let l = c.loop-word in
    let a = c.args in
    let none = needed-none a.items.now l.word-index (omega arith) (omega arith) in
    enough_size a.most _ a.items.now (omega (arith, none, l.invariant.1)) (omega (arith, none, l.invariant.1))
