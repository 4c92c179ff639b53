use mathlib.Core.Path.{sym, ◌∙◌}
use Rattle.decimal_word.proofs.Laws.{word-empty, word-digits, word-other}
use Rattle.decimal_word.proofs.u64_of.Goals as goal

pub returns-then-word-eq0 : goal.returns-then-word-eq0
returns-then-word-eq0 c = word-empty c.args.word.now c.args.most c.if-word-eq0.true

pub returns-then-all_digits : goal.returns-then-all_digits
returns-then-all_digits c =
    c.value_within.ensures
    ∙ word-digits c.args.word.now c.args.most c.if-word-eq0.false (sym c.all_digits.ensures ∙ c.if-all_digits.true)

pub returns : goal.returns
returns c = word-other c.args.word.now c.args.most c.if-word-eq0.false (sym c.all_digits.ensures ∙ c.if-all_digits.false)
