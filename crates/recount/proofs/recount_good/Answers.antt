use Rattle.recount.proofs.Laws.{good_is}
use Rattle.recount.proofs.recount_good.Goals as goal

pub returns : goal.returns
returns c = good_is c.args.s c.args.log.now c.args.marks.now c.args.fronts.now c.args.text.now _ _ _ _ _ _ c.watched_by.ensures c.mark_records.ensures c.session-session.ensures.0 c.session-session.ensures.1 c.figures_by-figures.ensures c.report.ensures c.requires.3
