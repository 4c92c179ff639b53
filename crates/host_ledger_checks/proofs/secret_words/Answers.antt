use mathlib.Core.List.{[], ◌∷◌}
use Rattle.ledger_state.specs.State.{words_of}
use Rattle.host_ledger.specs.Parts.{secret_at}
use Rattle.host_ledger.specs.Words.{ledger_at}
use Rattle.host_ledger_checks.proofs.secret_words.Goals as goal

pub returns : goal.returns
unfolding ledger_at secret_at words_of
returns c =
    λ i.
    c.low.ensures i
    ∷ c.high.ensures i
    ∷ c.low-2.ensures i
    ∷ c.high-2.ensures i
    ∷ c.low-3.ensures i
    ∷ c.high-3.ensures i
    ∷ c.low-4.ensures i
    ∷ c.high-4.ensures i ∷ []
