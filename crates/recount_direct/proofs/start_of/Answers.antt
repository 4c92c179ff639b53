use mathlib.Core.Path.{◌≡◌}
use Prim.Native.Nat.{◌-◌}
use native.Mathlib.Omega.{arith}
use borrow.Author.Rules.{rules}
use Rattle.recount_class.specs.Numbers.{class_number}
use Rattle.recount_direct.proofs.Laws.{start_first, start-turn, start-within}
use Rattle.recount_direct.proofs.start_of.Goals as goal

pub loop-j-init : goal.loop-j-init
loop-j-init c = (start_first _ _, search rules)

pub loop-j-preserved : goal.loop-j-preserved
loop-j-preserved c =
    let l = c.loop-j in (
      start-turn c.args.records.log.now c.args.records.marks.now l.j l.start (class_number c.class_at-class.result) l.invariant.0 c.class_at-class.ensures _ c.start_next-start.ensures,
      start-within (class_number c.class_at-class.result) _ _ _ c.start_next-start.ensures l.invariant.1,
    )
