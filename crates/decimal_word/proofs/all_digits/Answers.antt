use mathlib.Core.Path.{sym, ◌∙◌}
use native.Mathlib.Omega.{arith}
use Rattle.decimal_word.proofs.Laws.{digits_step, digits_low, digits-high, digits_end}
use Rattle.decimal_word.proofs.all_digits.Goals as goal

pub returns-then-byte-lt48 : goal.returns-then-byte-lt48
returns-then-byte-lt48 c = sym (c.loop-byte.invariant ∙ digits_low c.args.word.now c.loop-byte.byte-index (omega arith) c.if-byte-lt48.true)

pub returns-then-byte-gt57 : goal.returns-then-byte-gt57
returns-then-byte-gt57 c = sym (c.loop-byte.invariant ∙ digits-high c.args.word.now c.loop-byte.byte-index (omega arith) c.if-byte-lt48.false c.if-byte-gt57.true)

pub loop-byte-preserved : goal.loop-byte-preserved
loop-byte-preserved c =
    c.loop-byte.invariant ∙ digits_step c.args.word.now c.loop-byte.byte-index (omega arith) c.if-byte-lt48.false c.if-byte-gt57.false

pub returns : goal.returns
returns c = sym (c.loop-byte.invariant ∙ digits_end c.args.word.now c.loop-byte.byte-index (omega arith))
