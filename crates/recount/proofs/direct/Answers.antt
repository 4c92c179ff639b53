use Rattle.recount.specs.Figures.{direct_at}
use Rattle.recount.proofs.direct.Goals as goal

pub returns : goal.returns
unfolding direct_at
returns c = λ i. record { observations = c.count-observations.ensures i; unavailable = c.count-unavailable.ensures i; discontinuities = c.count-discontinuities.ensures i; reordered = c.count-reordered.ensures i }
