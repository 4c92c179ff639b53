use Rattle.host_ledger.specs.Parts.{secret_words}
use Rattle.host_ledger.specs.Left.{fresh_words}
use borrow.Author.Rules.{rules}
use Rattle.host_ledger.proofs.store_fresh.Goals as goal

pub returns : goal.returns
unfolding fresh_words secret_words
returns c = search rules
