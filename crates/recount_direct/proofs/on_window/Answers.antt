use mathlib.Core.Path.{sym, ap, ◌∙◌}
use Prim.Native.Nat.{◌-◌}
use Rattle.recount_observed.specs.Observed.{observation_at}
use Rattle.recount_window.specs.Window.{points_from}
use Rattle.history.specs.Given.{counters_of}
use Rattle.recount_direct.proofs.Laws.{unanchored, anchored}
use Rattle.recount_direct.proofs.on_window.Goals as goal

pub returns-in-None : goal.returns-in-None
returns-in-None c =
    c.without_anchor.ensures
    ∙ unanchored c.args.c (points_from (observation_at c.args.records.log.now c.args.records.marks.now) c.args.start (c.args.n - c.args.start)) (ap counters_of (sym c.in-None.is) ∙ c.anchor-anchor.ensures)

pub returns-in-Some : goal.returns-in-Some
returns-in-Some c =
    c.from_anchor.ensures
    ∙ anchored c.args.c c.in-Some.a (points_from (observation_at c.args.records.log.now c.args.records.marks.now) c.args.start (c.args.n - c.args.start)) (ap counters_of (sym c.in-Some.is) ∙ c.anchor-anchor.ensures)
