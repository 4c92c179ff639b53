use mathlib.Core.Path.{refl}
use Rattle.host_ledger.specs.Left.{sent_words}
use Rattle.host_ledger.proofs.store_sent.Goals as goal

pub returns : goal.returns
unfolding sent_words
returns c = refl
