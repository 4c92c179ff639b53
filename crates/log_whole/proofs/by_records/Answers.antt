use Rattle.log_whole.proofs.Laws.{by-good, by-bad}
use Rattle.log_whole.proofs.by_records.Goals as goal

pub returns-then-first-settings : goal.returns-then-first-settings
returns-then-first-settings c = by-good c.args.first c.args.settings c.if-first-settings.true

pub returns : goal.returns
returns c = by-bad c.args.first c.args.settings c.if-first-settings.false
