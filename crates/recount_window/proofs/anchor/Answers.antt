use mathlib.Core.Path.{◌≡◌}
use Prim.Native.Nat.{◌-◌}
use native.Mathlib.Omega.{arith}
use borrow.Author.Rules.{rules}
use Rattle.recount_observed.specs.Observed.{observation_at}
use Rattle.history.specs.DirectLoss.{anchor}
use Rattle.recount_window.proofs.Laws.{anchor-start, anchor-turn}
use Rattle.recount_window.proofs.anchor.Goals as goal

pub loop-j-init : goal.loop-j-init
loop-j-init c = anchor-start _ _

pub loop-j-preserved : goal.loop-j-preserved
loop-j-preserved c =
    let l = c.loop-j in
    anchor-turn (observation_at c.args.records.log.now c.args.records.marks.now) c.args.start l.j l.auto.j _ _ _ c.point_at-point.ensures c.first_of-found.ensures l.invariant
