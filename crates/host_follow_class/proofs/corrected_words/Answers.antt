use mathlib.Core.Path.{ap, ◌∙◌}
use Rattle.correlation.specs.Words.{words_of}
use Rattle.correlation.specs.Slots.{corrected_slot}
use Rattle.host_follow_class.proofs.Laws.{said_fits, said-set}
use Rattle.host_follow_class.proofs.corrected_words.Goals as goal

pub overflow_add-result : goal.overflow_add-result
overflow_add-result c =
    record { fits = said_fits c.args.word c.args.time c.args.reference c.args.slot c.is_whole.result c.requires c.is_whole.ensures c.if-is_whole.true c.ranges.word.fits }

pub returns-then-is_whole : goal.returns-then-is_whole
returns-then-is_whole c =
    said-set c.args.word c.args.time c.args.reference c.args.slot c.is_whole.result c.requires c.is_whole.ensures c.if-is_whole.true c.ranges.word.fits c.ranges.time c.ranges.reference

pub returns : goal.returns
returns c = c.words.ensures ∙ ap words_of (c.correct-corrected.ensures ∙ ap corrected_slot c.requires)
