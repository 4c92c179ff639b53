use mathlib.Core.Path.{◌≡◌}
use Prim.Native.Nat.{◌-◌}
use native.Mathlib.Omega.{arith}
use borrow.Author.Rules.{rules}
use Rattle.recount_observed.specs.Observed.{observation_at}
use Rattle.history.specs.Given.{counters_of}
use Rattle.recount_window.proofs.Laws.{reach-start, reach-turn, reach_few}
use Rattle.recount_window.proofs.reach_of.Goals as goal

pub loop-j-init : goal.loop-j-init
loop-j-init c = (reach-start _ _ _, (search rules, search rules))

pub reach_next-r-requires : goal.reach_next-r-requires
reach_next-r-requires c = (search rules, search rules)

pub loop-j-preserved : goal.loop-j-preserved
loop-j-preserved c =
    let l = c.loop-j in (
      reach-turn (observation_at c.args.records.log.now c.args.records.marks.now) c.args.start c.args.anchor l.j l.auto.j _ _ _ c.point_at-point.ensures c.reach_next-r.ensures l.invariant.0,
      reach_few c.args.anchor (counters_of c.point_at-point.result) l.r c.reach_next-r.result l.j c.reach_next-r.ensures l.invariant.1,
    )
