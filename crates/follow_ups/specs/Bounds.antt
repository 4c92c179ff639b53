-- Refusal 4 over the follow-ups: their counts, the delay's count and sum, and the counts of the clock quality.
use Rattle.std.specs.Prelude.{Bool, ◌&&◌, ℕ, ◌<◌, ltb}
use Rattle.limits.specs.Limits.{count_bound}
use Rattle.delays.specs.Bounds as delays
use Rattle.clock_quality.specs.Bounds as quality
use Rattle.follow_ups.specs.declared.FollowCounts.{FollowCounts}
use Rattle.follow_ups.specs.declared.FollowUps.{FollowUps}

-- the observations, and those of each of the five classes, are below 2^63
pub record CountsIn (n : FollowCounts) : Type 0 where
  pub observations : n.observations < count_bound
  pub matched : n.matched < count_bound
  pub repeated : n.repeated < count_bound
  pub unmatched : n.unmatched < count_bound
  pub ambiguous : n.ambiguous < count_bound
  pub unavailable : n.unavailable < count_bound

-- these, the delay's count and the quality's five are below 2^63, the delay's sum below 2^126 in magnitude
pub record InBounds (f : FollowUps) : Type 0 where
  pub counts : CountsIn f.counts
  pub delay : delays.Bounded f.delay
  pub quality : quality.Bounded f.quality

-- a count is below 2^63
abbrev pub fits : ℕ → Bool
fits n = ltb n count_bound

-- the observations and the five classes as a test
abbrev pub counts_fit : FollowCounts → Bool
counts_fit n =
    fits n.observations && fits n.matched && fits n.repeated && fits n.unmatched && fits n.ambiguous && fits n.unavailable

-- all of them as a test: where it fails, refusal 4 applies
abbrev pub follow_ups_fit : FollowUps → Bool
follow_ups_fit f = counts_fit f.counts && delays.counts_fit f.delay && quality.counts_fit f.quality
