use Rattle.std.proofs.Common.{refl, rules, ◌∙◌}
use Rattle.recount_marks.proofs.Laws.{marks_start, marks_turn}
use Rattle.recount_marks.proofs.mark_records.Goals as goal

pub loop-i-init : goal.loop-i-init
loop-i-init c = (marks_start _ _ _ _, refl)

pub loop-i-preserved : goal.loop-i-preserved
loop-i-preserved c = (marks_turn _ _ _ _ _ _ _ (c.from.ensures ∙ c.record_mark-mark.ensures) c.loop-i.invariant.0, search rules)
