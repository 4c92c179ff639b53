use mathlib.Core.Path.{refl}
use Rattle.replies.specs.Served.{after_duplicate}
use Rattle.host_ledger.specs.Parts.{replies_at}
use Rattle.host_ledger.specs.Words.{ledger_at}
use Rattle.host_ledger.specs.Left.{counted_words}
use Rattle.host_accept_words.specs.Accept.{duplicate_words}
use Rattle.host_accept_words.proofs.count_duplicate.Goals as goal

pub returns : goal.returns
unfolding duplicate_words counted_words ledger_at replies_at after_duplicate
returns c = refl
