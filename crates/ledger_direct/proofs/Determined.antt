-- The contract determines the measurement and every lent word: two exits that meet it are equal.
-- Assumes nothing.
use mathlib.Core.Path.{◌≡◌, sym, ap, ◌∙◌}
use contract.Lifetimes.{Lfts}
use borrow.Fn.World as World
use borrow.Fn.Kinds as Kinds'
use denote.Triple.Clauses as Clauses
use Rattle.ledger_steps.specs.Observe.{DirectOutcome}
use Rattle.ledger_direct.specs.contracts.count_direct as count-direct
use Rattle.ledger_direct.proofs.count_direct.Kinds as count-direct-kinds
use Rattle.ledger_direct.proofs.count_direct.Reads as count-direct-reads

-- the measurement, the seen offsets and the links
pub count-direct-unique :
    (κs : Lfts 2) (a : World.ArgsD count-direct.signature κs) (r₁ r₂ : World.ResD count-direct.signature κs)
    (s₁ s₂ : Clauses.AtExit (Kinds'.ended_of 2 count-direct-kinds.ps count-direct-kinds.r) κs)
    → count-direct-reads.Post κs a r₁ s₁ → count-direct-reads.Post κs a r₂ s₂
    → (r₁ ≡ r₂) × (s₁.1.0.now ≡ s₂.1.0.now) × (s₁.1.1.0.now ≡ s₂.1.1.0.now)
count-direct-unique κs a r₁ r₂ s₁ s₂ p q =
    let e = p ∙ sym q in
    (ap (λ (x : DirectOutcome). x.direct) e, ap (λ (x : DirectOutcome). x.offsets) e, ap (λ (x : DirectOutcome). x.links) e)
