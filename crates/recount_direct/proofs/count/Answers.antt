use mathlib.Core.Path.{◌≡◌, ◌∙◌}
use Prim.Native.Nat.{◌-◌}
use native.Mathlib.Omega.{arith}
use borrow.Author.Rules.{rules}
use Rattle.recount_counts.specs.Tests.{passing}
use Rattle.recount_back.proofs.Laws.{total-most}
use Rattle.recount_class.specs.Numbers.{class_number, figure_number}
use Rattle.recount_direct.proofs.Laws.{passing-none, passing_more, start_first, start-turn, start-within, test_is}
use Rattle.recount_direct.proofs.count.Goals as goal

pub loop-j-init : goal.loop-j-init
loop-j-init c = (passing-none _ _ _, search rules, start_first _ _, search rules)

pub loop-j-preserved : goal.loop-j-preserved
loop-j-preserved c =
    let l = c.loop-j in (
      passing_more _ _ _ _ _ _ _ c.one_if-total.ensures (c.passes.ensures ∙ test_is c.args.records.log.now c.args.records.marks.now l.j l.start (class_number c.class_at-class.result) l.invariant.2 c.class_at-class.ensures (figure_number c.args.figure)) l.invariant.0,
      total-most c.passes.result _ _ _ c.one_if-total.ensures l.invariant.1,
      start-turn c.args.records.log.now c.args.records.marks.now l.j l.start (class_number c.class_at-class.result) l.invariant.2 c.class_at-class.ensures _ c.start_next-start.ensures,
      start-within (class_number c.class_at-class.result) _ _ _ c.start_next-start.ensures l.invariant.3,
    )
