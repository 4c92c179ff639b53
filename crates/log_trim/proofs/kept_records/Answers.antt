use mathlib.Core.Path.{sym, ◌∙◌}
use Rattle.log_trim.proofs.Laws.{kept_all, kept-first}
use Rattle.log_trim.proofs.kept_records.Goals as goal

pub returns-then-all : goal.returns-then-all
returns-then-all c = kept_all c.args.log.now (sym c.requires.1 ∙ c.if-all.true)

pub returns : goal.returns
returns c = c.first_bad.ensures ∙ kept-first c.args.log.now
