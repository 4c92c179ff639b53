use Rattle.log_whole.proofs.Laws.{trailer_short, trailer_long}
use Rattle.log_whole.proofs.trailer_good.Goals as goal

pub returns-then-log-lt24 : goal.returns-then-log-lt24
returns-then-log-lt24 c = trailer_short c.args.log.now c.if-log-lt24.true

pub returns : goal.returns
returns c = trailer_long c.args.log.now c.trailer_fits.result c.if-log-lt24.false c.trailer_fits.ensures
