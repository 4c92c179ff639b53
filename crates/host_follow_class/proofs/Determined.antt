-- The contract determines the class and every lent word: two exits that meet it are equal. Assumes nothing.
use mathlib.Core.Path.{◌≡◌, sym, ap, ◌∙◌}
use contract.Lifetimes.{Lfts}
use borrow.Fn.World as World
use borrow.Fn.Kinds as Kinds'
use denote.Triple.Clauses as Clauses
use Rattle.host_follow_class.specs.Class.{ClassOutcome}
use Rattle.host_follow_class.specs.contracts.class_of_follow_up as class-of-follow-up
use Rattle.host_follow_class.proofs.class_of_follow_up.Kinds as class-of-follow-up-kinds
use Rattle.host_follow_class.proofs.class_of_follow_up.Reads as class-of-follow-up-reads

pub class-of-follow-up-unique :
    (κs : Lfts 3) (a : World.ArgsD class-of-follow-up.signature κs) (r₁ r₂ : World.ResD class-of-follow-up.signature κs)
    (s₁ s₂ : Clauses.AtExit (Kinds'.ended_of 3 class-of-follow-up-kinds.ps class-of-follow-up-kinds.r) κs)
    → class-of-follow-up-reads.Post κs a r₁ s₁ → class-of-follow-up-reads.Post κs a r₂ s₂
    → (r₁ ≡ r₂) × (s₁.1.0.now ≡ s₂.1.0.now)
class-of-follow-up-unique κs a r₁ r₂ s₁ s₂ p q =
    let e = p ∙ sym q in
    (ap (λ (x : ClassOutcome). x.class) e, ap (λ (x : ClassOutcome). x.slots) e)
