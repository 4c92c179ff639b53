use Rattle.host_quality.specs.Words.{quality_at}
use Rattle.host_ledger_parts.proofs.quality_without_last.Goals as goal

pub returns : goal.returns
unfolding quality_at
returns c = rw c.largest_of-largest.ensures
