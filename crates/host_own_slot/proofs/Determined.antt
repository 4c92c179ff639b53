-- The contract of `raise_own` determines every lent word: two exits that meet it are equal. Assumes nothing.
use mathlib.Core.Path.{◌≡◌, sym, ◌∙◌}
use contract.Lifetimes.{Lfts}
use borrow.Fn.World as World
use borrow.Fn.Kinds as Kinds'
use denote.Triple.Clauses as Clauses
use Rattle.host_own_slot.specs.contracts.raise_own as raise-own
use Rattle.host_own_slot.proofs.raise_own.Kinds as raise-own-kinds
use Rattle.host_own_slot.proofs.raise_own.Reads as raise-own-reads

-- the rows of words
pub raise-own-unique :
    (κs : Lfts 4) (a : World.ArgsD raise-own.signature κs) (r₁ r₂ : World.ResD raise-own.signature κs)
    (s₁ s₂ : Clauses.AtExit (Kinds'.ended_of 4 raise-own-kinds.ps raise-own-kinds.r) κs)
    → raise-own-reads.Post κs a r₁ s₁ → raise-own-reads.Post κs a r₂ s₂ → s₁.1.1.0.now ≡ s₂.1.1.0.now
raise-own-unique κs a r₁ r₂ s₁ s₂ p q = p ∙ sym q
