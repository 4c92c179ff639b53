use Rattle.host_quality.specs.Words.{quality_at}
use Rattle.host_ledger.proofs.quality_of.Goals as goal

pub returns : goal.returns
unfolding quality_at
returns c = rw (c.largest_of-largest.ensures, c.last_of-sender.ensures, c.last_of-reflector.ensures)
