use mathlib.Core.Path.{◌≡◌, ap}
use Prim.Native.Nat.{◌-◌}
use native.Mathlib.Omega.{arith}
use borrow.Author.Rules.{rules}
use Rattle.recount_observed.specs.Observed.{observation_at}
use mathlib.Core.Bool.{Bool, ◌||◌}
use Rattle.history.specs.DirectLoss.{seen}
use Rattle.recount_window.proofs.Laws.{seen_start, seen-turn}
use Rattle.recount_window.proofs.was_seen.Goals as goal

pub loop-j-init : goal.loop-j-init
loop-j-init c = seen_start _ _ c.args.anchor _

pub loop-j-preserved : goal.loop-j-preserved
loop-j-preserved c =
    let l = c.loop-j in
    seen-turn (observation_at c.args.records.log.now c.args.records.marks.now) c.args.start c.args.anchor c.args.wanted l.j l.auto.j _ _ _ c.point_at-point.ensures (ap (λ (b : Bool). b || l.found) c.is_seen-found.ensures) l.invariant
