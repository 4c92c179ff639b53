use mathlib.Core.Path.{sym, ◌∙◌}
use native.Mathlib.Omega.{arith}
use Rattle.bit_pattern.proofs.Laws.{no_digit, a_digit, no_more}
use Rattle.bit_pattern.proofs.all_digits.Goals as goal

pub returns-then-digit_of-eq16 : goal.returns-then-digit_of-eq16
returns-then-digit_of-eq16 c =
    let l = c.loop-byte in
    no_digit c.args.text.now l.byte-index (omega arith) l.invariant (sym c.digit_of.ensures ∙ c.if-digit_of-eq16.true)

pub loop-byte-preserved : goal.loop-byte-preserved
loop-byte-preserved c =
    let l = c.loop-byte in
    a_digit c.args.text.now l.byte-index (omega arith) l.invariant (λ e. c.if-digit_of-eq16.false (c.digit_of.ensures ∙ e))

pub returns : goal.returns
returns c =
    let l = c.loop-byte in
    no_more c.args.text.now l.byte-index (omega arith) (omega arith) l.invariant
