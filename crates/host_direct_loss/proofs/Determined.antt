-- The contract determines every word and both rooms: two exits that meet it are equal. Assumes nothing.
use mathlib.Core.Path.{◌≡◌, sym, ap, ◌∙◌}
use contract.Lifetimes.{Lfts}
use borrow.Fn.World as World
use borrow.Fn.Kinds as Kinds'
use denote.Triple.Clauses as Clauses
use Rattle.host_direct_loss.specs.Left.{DirectLeft}
use Rattle.host_direct_loss.specs.contracts.count as count
use Rattle.host_direct_loss.proofs.count.Kinds as count-kinds
use Rattle.host_direct_loss.proofs.count.Reads as count-reads

pub count-unique :
    (κs : Lfts 3) (a : World.ArgsD count.signature κs) (r₁ r₂ : World.ResD count.signature κs)
    (s₁ s₂ : Clauses.AtExit (Kinds'.ended_of 3 count-kinds.ps count-kinds.r) κs)
    → count-reads.Post κs a r₁ s₁ → count-reads.Post κs a r₂ s₂
    → (s₁.0.now ≡ s₂.0.now) × (s₁.1.0.now ≡ s₂.1.0.now) × (s₁.1.1.0.now ≡ s₂.1.1.0.now)
count-unique κs a r₁ r₂ s₁ s₂ p q =
    let e = p ∙ sym q in
    (ap (λ (x : DirectLeft). x.ledger) e, ap (λ (x : DirectLeft). x.offsets) e, ap (λ (x : DirectLeft). x.links) e)
