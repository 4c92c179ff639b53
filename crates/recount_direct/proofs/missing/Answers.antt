use mathlib.Core.Path.{sym, ap, ◌∙◌}
use Rattle.history.specs.Given.{counters_of}
use Rattle.recount_direct.proofs.Shown.{start_fits, none-missing, reach-fits, missing_says}
use borrow.Author.Rules.{rules}
use Rattle.recount_direct.proofs.missing.Goals as goal

pub anchor-anchor-requires : goal.anchor-anchor-requires
anchor-anchor-requires c = (
  start_fits c.args.records.log.now c.args.records.marks.now c.args.n c.start_of-start.result c.start_of-start.ensures,
  search rules,
)

pub reach_of-r-requires : goal.reach_of-r-requires
reach_of-r-requires c = (
  start_fits c.args.records.log.now c.args.records.marks.now c.args.n c.start_of-start.result c.start_of-start.ensures,
  search rules,
  search rules,
)

pub returns-in-None : goal.returns-in-None
returns-in-None c =
    none-missing c.args.records.log.now c.args.records.marks.now c.args.n c.start_of-start.result c.start_of-start.ensures (ap counters_of (sym c.in-None.is) ∙ c.anchor-anchor.ensures)

pub missing_by-requires : goal.missing_by-requires
missing_by-requires c =
    reach-fits c.args.records.log.now c.args.records.marks.now c.args.n c.start_of-start.result c.start_of-start.ensures c.in-Some.a (ap counters_of (sym c.in-Some.is) ∙ c.anchor-anchor.ensures) c.reach_of-r.result c.reach_of-r.ensures

pub returns-in-Some : goal.returns-in-Some
returns-in-Some c =
    missing_says c.args.records.log.now c.args.records.marks.now c.args.n c.start_of-start.result c.start_of-start.ensures c.in-Some.a (ap counters_of (sym c.in-Some.is) ∙ c.anchor-anchor.ensures) c.reach_of-r.result c.reach_of-r.ensures _ c.missing_by.ensures
