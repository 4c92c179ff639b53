use mathlib.Core.Path.{refl, ◌∙◌}
use native.Mathlib.Omega.{arith}
use Rattle.decimal_word.proofs.Laws.{digit_at, value-step, past, reached}
use Rattle.decimal_word.proofs.value_within.Goals as goal

pub loop-byte-init : goal.loop-byte-init
loop-byte-init c = (omega arith, c.requires, refl)

pub overflow_sub-digit : goal.overflow_sub-digit
overflow_sub-digit c = let l = c.loop-byte in omega (arith, (digit_at c.args.word.now l.byte-index (omega arith) l.invariant.1).0)

pub overflow_cast-digit : goal.overflow_cast-digit
overflow_cast-digit c = let l = c.loop-byte in omega (arith, (digit_at c.args.word.now l.byte-index (omega arith) l.invariant.1).1)

pub returns-then-value-most : goal.returns-then-value-most
returns-then-value-most c = let l = c.loop-byte in past c.args.word.now c.args.most l.byte-index l.value (omega arith) l.invariant.2 (omega arith)

pub returns-then-most-tens : goal.returns-then-most-tens
returns-then-most-tens c = let l = c.loop-byte in past c.args.word.now c.args.most l.byte-index l.value (omega arith) l.invariant.2 (omega arith)

pub loop-byte-preserved : goal.loop-byte-preserved
loop-byte-preserved c =
    let l = c.loop-byte in
    (omega arith, (digit_at c.args.word.now l.byte-index (omega arith) l.invariant.1).2, l.invariant.2 ∙ value-step c.args.word.now l.byte-index l.value (omega arith))

pub returns : goal.returns
returns c =
    let l = c.loop-byte in
    reached c.args.word.now c.args.most l.byte-index l.value (omega arith) l.invariant.0 l.invariant.2
