use Rattle.host_clock_quality_summary.proofs.Answers.{shown-said}
use borrow.Author.Rules.{rules}
use Rattle.host_clock_quality_summary.proofs.ambrulicciu_clock_quality_summary.Goals as goal

pub returns : goal.returns
returns c =
    shown-said c.args.quality.now c.args.shown.now _ _ (search (rules, c.well_formed)) c.load-state.ensures c.place_quality.ensures
