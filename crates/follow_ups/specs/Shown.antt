-- What the follow-ups show: `FollowUpSummary`.
use Rattle.delays.specs.Summary as delays
use Rattle.follow_ups.specs.declared.FollowUps.{FollowUps}
use Rattle.follow_ups.specs.declared.summary.FollowUpSummary.{FollowUpSummary}

-- counts and clock quality as they stand; of the delays count, average, minimum and maximum
abbrev pub summary_of : FollowUps → FollowUpSummary
summary_of f = record { counts = f.counts; delay = delays.summary_of f.delay; quality = f.quality }
