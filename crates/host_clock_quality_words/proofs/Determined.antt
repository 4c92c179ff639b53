-- The contracts determine the answer and every lent word: two exits that meet them are equal. Assumes nothing.
use mathlib.Core.Path.{◌≡◌, sym, ◌∙◌}
use contract.Lifetimes.{Lfts}
use borrow.Fn.World as World
use borrow.Fn.Kinds as Kinds'
use denote.Triple.Clauses as Clauses
use Rattle.host_clock_quality_words.specs.contracts.load as load
use Rattle.host_clock_quality_words.proofs.load.Kinds as load-kinds
use Rattle.host_clock_quality_words.proofs.load.Reads as load-reads
use Rattle.host_clock_quality_words.specs.contracts.store as store
use Rattle.host_clock_quality_words.proofs.store.Kinds as store-kinds
use Rattle.host_clock_quality_words.proofs.store.Reads as store-reads

pub load-unique :
    (κs : Lfts 1) (a : World.ArgsD load.signature κs) (r₁ r₂ : World.ResD load.signature κs)
    (s₁ s₂ : Clauses.AtExit (Kinds'.ended_of 1 load-kinds.ps load-kinds.r) κs)
    → load-reads.Post κs a r₁ s₁ → load-reads.Post κs a r₂ s₂ → r₁ ≡ r₂
load-unique κs a r₁ r₂ s₁ s₂ p q = p ∙ sym q

pub store-unique :
    (κs : Lfts 1) (a : World.ArgsD store.signature κs) (r₁ r₂ : World.ResD store.signature κs)
    (s₁ s₂ : Clauses.AtExit (Kinds'.ended_of 1 store-kinds.ps store-kinds.r) κs)
    → store-reads.Post κs a r₁ s₁ → store-reads.Post κs a r₂ s₂ → s₁.0.now ≡ s₂.0.now
store-unique κs a r₁ r₂ s₁ s₂ p q = p ∙ sym q
