use Rattle.host_ledger.specs.Parts.{delays_of}
use Rattle.host_ledger.proofs.parts.delays_of.Goals as goal

pub returns : goal.returns
unfolding delays_of
returns c = rw (c.is_set.ensures, c.extreme_of-smallest.ensures, c.extreme_of-largest.ensures)
