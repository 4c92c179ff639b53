-- The contract determines the number and every word: two exits that meet it are equal. Assumes nothing.
use mathlib.Core.Path.{◌≡◌, sym, ap, ◌∙◌}
use contract.Lifetimes.{Lfts}
use borrow.Fn.World as World
use borrow.Fn.Kinds as Kinds'
use denote.Triple.Clauses as Clauses
use Rattle.host_fresh.specs.Fresh.{FreshLeft}
use Rattle.host_fresh.specs.contracts.ambrulicciu_ledger_fresh as fresh
use Rattle.host_fresh.proofs.ambrulicciu_ledger_fresh.Kinds as fresh-kinds
use Rattle.host_fresh.proofs.ambrulicciu_ledger_fresh.Reads as fresh-reads

pub fresh-unique :
    (κs : Lfts 2) (a : World.ArgsD fresh.signature κs) (r₁ r₂ : World.ResD fresh.signature κs)
    (s₁ s₂ : Clauses.AtExit (Kinds'.ended_of 2 fresh-kinds.ps fresh-kinds.r) κs)
    → fresh-reads.Post κs a r₁ s₁ → fresh-reads.Post κs a r₂ s₂
    → (r₁ ≡ r₂) × (s₁.0.now ≡ s₂.0.now)
fresh-unique κs a r₁ r₂ s₁ s₂ p q =
    let e = p ∙ sym q in
    (ap (λ (x : FreshLeft). x.number) e, ap (λ (x : FreshLeft). x.ledger) e)
