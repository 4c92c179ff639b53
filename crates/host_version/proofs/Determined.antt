-- The contract determines the number and the answer: two exits that meet it are equal. Assumes nothing.
use mathlib.Core.Path.{◌≡◌, sym, ap, ◌∙◌}
use contract.Lifetimes.{Lfts}
use borrow.Fn.World as World
use borrow.Fn.Kinds as Kinds'
use denote.Triple.Clauses as Clauses
use Rattle.host_version.specs.Version.{Left}
use Rattle.host_version.specs.contracts.ambrulicciu_version as version
use Rattle.host_version.proofs.ambrulicciu_version.Kinds as version-kinds
use Rattle.host_version.proofs.ambrulicciu_version.Reads as version-reads

pub version-unique :
    (κs : Lfts 1) (a : World.ArgsD version.signature κs) (r₁ r₂ : World.ResD version.signature κs)
    (s₁ s₂ : Clauses.AtExit (Kinds'.ended_of 1 version-kinds.ps version-kinds.r) κs)
    → version-reads.Post κs a r₁ s₁ → version-reads.Post κs a r₂ s₂
    → (r₁ ≡ r₂) × (s₁.0.now ≡ s₂.0.now)
version-unique κs a r₁ r₂ s₁ s₂ p q =
    let e = p ∙ sym q in
    (ap (λ (x : Left). x.number) e, ap (λ (x : Left). x.answer) e)
