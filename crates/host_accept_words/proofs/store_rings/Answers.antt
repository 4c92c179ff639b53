use Rattle.host_accept_words.specs.Accept.{rings_stored}
use Rattle.host_accept_words.proofs.store_rings.Goals as goal

pub returns : goal.returns
unfolding rings_stored
returns c = c.store_tables.ensures
