use Rattle.host_ledger.specs.Parts.{follow_at}
use Rattle.host_ledger.proofs.follow_of.Goals as goal

pub returns : goal.returns
unfolding follow_at
returns c = rw (c.delays_of-delay.ensures, c.quality_of-quality.ensures)
