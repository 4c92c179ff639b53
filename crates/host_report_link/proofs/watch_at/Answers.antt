use Rattle.host_report_link.proofs.Laws.{watched_is}
use Rattle.host_report_link.proofs.watch_at.Goals as goal

pub returns : goal.returns
returns c = watched_is _ _ _ c.if-watched-eq0.false c.load-watching.ensures
