use Rattle.std.proofs.Common.{sym, ◌∙◌}
use Rattle.timestamps.proofs.Steps.{no_time, scaled_fits, sum_fits, time-kept, time_dropped}
use Rattle.timestamps.proofs.time_at.Goals as goal

pub overflow_mul-time : goal.overflow_mul-time
overflow_mul-time c =
    scaled_fits c.args.second c.args.ns c.ranges.second c.requires (sym c.reference_within.ensures ∙ c.if-reference_within.true)

pub overflow_add-time : goal.overflow_add-time
overflow_add-time c =
    sum_fits c.args.second c.args.ns c.ranges.second c.requires (sym c.reference_within.ensures ∙ c.if-reference_within.true)

pub returns-then-time_within : goal.returns-then-time_within
returns-then-time_within c =
    time-kept c.args.second c.args.ns c.ranges.second c.requires (sym c.reference_within.ensures ∙ c.if-reference_within.true)
    (sym c.time_within.ensures ∙ c.if-time_within.true)

pub returns-else-time_within : goal.returns-else-time_within
returns-else-time_within c =
    time_dropped c.args.second c.args.ns c.ranges.second c.requires (sym c.reference_within.ensures ∙ c.if-reference_within.true)
    (sym c.time_within.ensures ∙ c.if-time_within.false)

pub returns-else-reference_within : goal.returns-else-reference_within
returns-else-reference_within c =
    no_time c.args.second c.args.ns c.ranges.second c.requires (sym c.reference_within.ensures ∙ c.if-reference_within.false)
