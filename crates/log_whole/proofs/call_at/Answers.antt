use mathlib.Core.Path.{sym, ap, ◌∙◌}
use native.Mathlib.Omega.{arith}
use Rattle.log_whole.specs.Logs.{played_by}
use Rattle.log_whole.proofs.Laws.{trailer_facts, one_within, call_too_long, call_bad_trailer, call_none, call_there}
use Rattle.log_whole.proofs.call_at.Goals as goal

pub returns-then-log-gt-MOST_BYTES : goal.returns-then-log-gt-MOST_BYTES
returns-then-log-gt-MOST_BYTES c = call_too_long c.args.log.now c.args.i c.if-log-gt-MOST_BYTES.true

pub settings_of-s-requires : goal.settings_of-s-requires
settings_of-s-requires c = let f = trailer_facts c.args.log.now (sym c.trailer_good.ensures ∙ c.if-trailer_good.true) in (f.long, f.within)

pub overflow_add-at : goal.overflow_add-at
overflow_add-at c = record { fits = omega (arith, one_within c.args.log.now c.settings_of-s.result c.args.i (sym c.trailer_good.ensures ∙ c.if-trailer_good.true) c.settings_of-s.ensures c.if-i-s.true) }

pub read_at-requires : goal.read_at-requires
read_at-requires c = one_within c.args.log.now c.settings_of-s.result c.args.i (sym c.trailer_good.ensures ∙ c.if-trailer_good.true) c.settings_of-s.ensures c.if-i-s.true

pub returns-then-i-s : goal.returns-then-i-s
returns-then-i-s c =
    c.play.ensures ∙ ap played_by c.read_at.ensures
    ∙ call_there c.args.log.now c.args.i c.settings_of-s.result c.if-log-gt-MOST_BYTES.false (sym c.trailer_good.ensures ∙ c.if-trailer_good.true) c.settings_of-s.ensures c.if-i-s.true

pub returns-else-i-s : goal.returns-else-i-s
returns-else-i-s c = call_none c.args.log.now c.args.i c.settings_of-s.result c.if-log-gt-MOST_BYTES.false (sym c.trailer_good.ensures ∙ c.if-trailer_good.true) c.settings_of-s.ensures c.if-i-s.false

pub returns-else-trailer_good : goal.returns-else-trailer_good
returns-else-trailer_good c = call_bad_trailer c.args.log.now c.args.i c.if-log-gt-MOST_BYTES.false (sym c.trailer_good.ensures ∙ c.if-trailer_good.false)
