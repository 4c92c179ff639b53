use mathlib.Core.Path.{sym, ◌∙◌}
use native.Mathlib.Omega.{arith}
use Rattle.log_whole.proofs.Laws.{bad_begin, bad-step, bad_stop, bad_end}
use Rattle.log_whole.proofs.first_bad.Goals as goal

pub loop-i-init : goal.loop-i-init
loop-i-init c = bad_begin c.args.log.now c.args.start c.args.count

pub returns-then-not-good_at : goal.returns-then-not-good_at
returns-then-not-good_at c =
    sym (c.loop-i.invariant ∙ bad_stop c.args.log.now c.args.start c.loop-i.i c.args.count (omega arith) (sym c.good_at.ensures ∙ c.if-not-good_at.true))

pub loop-i-preserved : goal.loop-i-preserved
loop-i-preserved c =
    c.loop-i.invariant ∙ bad-step c.args.log.now c.args.start c.loop-i.i c.args.count (omega arith) (sym c.good_at.ensures ∙ c.if-not-good_at.false)

pub returns : goal.returns
returns c = sym (c.loop-i.invariant ∙ bad_end c.args.log.now c.args.start c.loop-i.i c.args.count (omega arith))
