-- The contract determines the number, every word of the ledger and the three rooms: two exits that meet it are equal. Assumes nothing.
use mathlib.Core.Path.{◌≡◌, sym, ap, ◌∙◌}
use contract.Lifetimes.{Lfts}
use borrow.Fn.World as World
use borrow.Fn.Kinds as Kinds'
use denote.Triple.Clauses as Clauses
use Rattle.limits.proofs.Numbers.{number_unique}
use Rattle.host_observe_words.specs.Observe.{Left}
use Rattle.host_observe_words.specs.contracts.observe as observe
use Rattle.host_observe_words.proofs.observe.Kinds as observe-kinds
use Rattle.host_observe_words.proofs.observe.Reads as observe-reads

pub observe-unique :
    (κs : Lfts 6) (a : World.ArgsD observe.signature κs) (r₁ r₂ : World.ResD observe.signature κs)
    (s₁ s₂ : Clauses.AtExit (Kinds'.ended_of 6 observe-kinds.ps observe-kinds.r) κs)
    → observe-reads.Post κs a r₁ s₁ → observe-reads.Post κs a r₂ s₂
    → (r₁ ≡ r₂) × (s₁.0.now ≡ s₂.0.now) × (s₁.1.1.0.now ≡ s₂.1.1.0.now) × (s₁.1.1.1.0.now ≡ s₂.1.1.1.0.now) × (s₁.1.1.1.1.0.now ≡ s₂.1.1.1.1.0.now)
observe-unique κs a r₁ r₂ s₁ s₂ p q =
    let e = p ∙ sym q in
    (number_unique r₁ r₂ (ap (λ (x : Left). x.number) e), ap (λ (x : Left). x.ledger) e, ap (λ (x : Left). x.slots) e, ap (λ (x : Left). x.offsets) e, ap (λ (x : Left). x.links) e)
