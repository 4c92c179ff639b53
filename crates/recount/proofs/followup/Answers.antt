use Rattle.recount.specs.Figures.{followup_at}
use Rattle.recount.proofs.followup.Goals as goal

pub returns : goal.returns
unfolding followup_at
returns c = λ i. record { observations = c.count-observations.ensures i; matched = c.count-matched.ensures i; repeated = c.count-repeated.ensures i; unmatched = c.count-unmatched.ensures i; ambiguous = c.count-ambiguous.ensures i; unavailable = c.count-unavailable.ensures i }
