use mathlib.Core.Path.{ap, ◌∙◌}
use Rattle.ledger_state.specs.declared.Ledger.{Ledger}
use Rattle.host_ledger.specs.Left.{fresh_words}
use Rattle.host_fresh.specs.Fresh.{fresh_left, fresh_of}
use Rattle.host_fresh.proofs.ambrulicciu_ledger_fresh.Goals as goal

pub returns : goal.returns
unfolding fresh_of
returns c = ap (fresh_left 0) (c.store_fresh.ensures.0 ∙ ap (λ (l : Ledger). fresh_words l.copies l.secret) c.fresh-next.ensures)
