use mathlib.Core.Path.{ap, ◌∙◌}
use native.Mathlib.Omega.{arith}
use mathlib.Core.Bool.{true, false}
use Rattle.correlation.specs.Words.{words_by}
use Rattle.host_own_slot.proofs.Laws.{free_as, more-as, unique_as}
use Rattle.host_own_slot.proofs.own_words.Goals as goal

pub returns-then-is_withheld : goal.returns-then-is_withheld
returns-then-is_withheld c =
    ap (words_by 1 1) (unique_as c.args.copies c.args.words.now _ c.is_withheld.ensures true c.if-is_withheld.true) ∙ free_as c.args.held _ c.if-count-eq0.true

pub returns-then-count-eq0 : goal.returns-then-count-eq0
returns-then-count-eq0 c =
    c.record_words.ensures
    ∙ ap (words_by 1 1) (unique_as c.args.copies c.args.words.now _ c.is_withheld.ensures false c.if-is_withheld.false)
    ∙ free_as c.args.held _ c.if-count-eq0.true

pub returns : goal.returns
-- what the two calls promise is looked up in c: none of them is named
returns c = more-as c.args.held _ _ _ c.if-count-eq0.false (omega arith) (omega arith)
