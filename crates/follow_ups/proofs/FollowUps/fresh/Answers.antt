use Rattle.follow_ups.specs.Followed.{counts}
use Rattle.follow_ups.proofs.FollowUps.fresh.Goals as goal

pub returns : goal.returns
returns c = λ i. record { counts = counts 0 0 0 0 0 0; delay = c.new.ensures i; quality = c.new-2.ensures i }
