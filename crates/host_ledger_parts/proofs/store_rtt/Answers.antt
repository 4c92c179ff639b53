use Rattle.host_ledger.specs.Parts.{delays_words}
use Rattle.host_ledger_parts.proofs.store_rtt.Goals as goal

pub returns : goal.returns
unfolding delays_words
returns c = rw (c.flag.ensures.0, c.extreme_kind.ensures, c.extreme_magnitude.ensures, c.extreme_kind-2.ensures, c.extreme_magnitude-2.ensures)
