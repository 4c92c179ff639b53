use Rattle.chains.specs.Links.{linked}
use Rattle.chains.proofs.link.Goals as goal

pub returns : goal.returns
unfolding linked
returns c = rw c.narrow.ensures
