-- The contracts determine every answer and every lent word: two exits that meet them are equal.
-- Assumes nothing.
use mathlib.Core.Path.{◌≡◌, sym, ap, ◌∙◌}
use contract.Lifetimes.{Lfts}
use borrow.Fn.World as World
use borrow.Fn.Kinds as Kinds'
use denote.Triple.Clauses as Clauses
use Rattle.offset_set.specs.Offsets.{OffsetSet}
use Rattle.offset_set.specs.contracts.add as add
use Rattle.offset_set.proofs.add.Kinds as add-kinds
use Rattle.offset_set.proofs.add.Reads as add_reads
use Rattle.offset_set.specs.contracts.contains as contains
use Rattle.offset_set.proofs.contains.Kinds as contains-kinds
use Rattle.offset_set.proofs.contains.Reads as contains-reads

pub contains-unique :
    (κs : Lfts 2) (a : World.ArgsD contains.signature κs) (r₁ r₂ : World.ResD contains.signature κs)
    (s₁ s₂ : Clauses.AtExit (Kinds'.ended_of 2 contains-kinds.ps contains-kinds.r) κs)
    → contains-reads.Post κs a r₁ s₁ → contains-reads.Post κs a r₂ s₂ → r₁ ≡ r₂
contains-unique κs a r₁ r₂ s₁ s₂ p q = p ∙ sym q

pub add-unique :
    (κs : Lfts 2) (a : World.ArgsD add.signature κs) (r₁ r₂ : World.ResD add.signature κs)
    (s₁ s₂ : Clauses.AtExit (Kinds'.ended_of 2 add-kinds.ps add-kinds.r) κs)
    → add_reads.Post κs a r₁ s₁ → add_reads.Post κs a r₂ s₂
    → (r₁ ≡ r₂) × (s₁.0.now ≡ s₂.0.now) × (s₁.1.0.now ≡ s₂.1.0.now)
add-unique κs a r₁ r₂ s₁ s₂ p q =
    let e = p ∙ sym q in
    (ap (λ (x : OffsetSet). x.count) e, ap (λ (x : OffsetSet). x.offsets) e, ap (λ (x : OffsetSet). x.links) e)
