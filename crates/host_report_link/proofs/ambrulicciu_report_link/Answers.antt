use Rattle.host_report_link.proofs.Laws.{link-refused, link-told}
use Rattle.host_report_link.proofs.ambrulicciu_report_link.Goals as goal

pub returns-then-out_of_place : goal.returns-then-out_of_place
returns-then-out_of_place c =
    let a = c.args in
    rw c.from.ensures
    (link-refused a.ledger.now a.monitor.now a.watched a.records a.turned_away a.text.now a.length.now _ _ c.watch_at-watch.ensures c.out_of_place.ensures c.if-out_of_place.true)

pub returns : goal.returns
returns c =
    let a = c.args in
    link-told a.ledger.now a.monitor.now a.watched a.records a.turned_away a.text.now _ a.length.now _ _ _ _ _ _ _
    c.out_of_place.ensures c.if-out_of_place.false c.load-state.ensures c.watch_at-watch.ensures c.figures_of-figures.ensures c.report-answer.ensures c.tell.ensures
