use mathlib.Core.Path.{sym, ◌∙◌}
use Rattle.log_whole.proofs.Laws.{trailer_facts, settings_within, log_too_long, log_bad_trailer, log_by_records}
use Rattle.log_whole.proofs.check.Goals as goal

pub returns-then-log-gt-MOST_BYTES : goal.returns-then-log-gt-MOST_BYTES
returns-then-log-gt-MOST_BYTES c = log_too_long c.args.log.now c.if-log-gt-MOST_BYTES.true

pub settings_of-s-requires : goal.settings_of-s-requires
settings_of-s-requires c = let f = trailer_facts c.args.log.now (sym c.trailer_good.ensures ∙ c.if-trailer_good.true) in (f.long, f.within)

pub first_bad-first-requires : goal.first_bad-first-requires
first_bad-first-requires c = settings_within c.args.log.now c.settings_of-s.result (sym c.trailer_good.ensures ∙ c.if-trailer_good.true) c.settings_of-s.ensures

pub returns-then-trailer_good : goal.returns-then-trailer_good
returns-then-trailer_good c =
    c.by_records.ensures
    ∙ log_by_records c.args.log.now c.first_bad-first.result c.settings_of-s.result c.if-log-gt-MOST_BYTES.false (sym c.trailer_good.ensures ∙ c.if-trailer_good.true) c.settings_of-s.ensures c.first_bad-first.ensures

pub returns : goal.returns
returns c = log_bad_trailer c.args.log.now c.if-log-gt-MOST_BYTES.false (sym c.trailer_good.ensures ∙ c.if-trailer_good.false)
