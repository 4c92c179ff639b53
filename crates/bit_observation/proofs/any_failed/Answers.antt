use mathlib.Core.Path.{sym, ◌∙◌}
use native.Mathlib.Omega.{arith}
use Rattle.bit_observation.proofs.Laws.{failed_here, failed_later, failed-none}
use Rattle.bit_observation.proofs.any_failed.Goals as goal

pub returns-then-flag : goal.returns-then-flag
returns-then-flag c =
    let l = c.loop-word in
    sym (l.invariant ∙ failed_here c.args.items.now l.word-index (omega arith) (sym c.flag.ensures ∙ c.if-flag.true))

pub loop-word-preserved : goal.loop-word-preserved
loop-word-preserved c =
    let l = c.loop-word in
    l.invariant ∙ failed_later c.args.items.now l.word-index (omega arith) (sym c.flag.ensures ∙ c.if-flag.false)

pub returns : goal.returns
returns c =
    let l = c.loop-word in
    sym (l.invariant ∙ failed-none c.args.items.now l.word-index (omega arith))
