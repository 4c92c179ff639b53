-- The contract determines every word: two exits that meet it are equal. Assumes nothing.
use mathlib.Core.Path.{◌≡◌, sym, ◌∙◌}
use contract.Lifetimes.{Lfts}
use borrow.Fn.World as World
use borrow.Fn.Kinds as Kinds'
use denote.Triple.Clauses as Clauses
use Rattle.host_round_trip.specs.contracts.count as count
use Rattle.host_round_trip.proofs.count.Kinds as count-kinds
use Rattle.host_round_trip.proofs.count.Reads as count-reads

pub count-unique :
    (κs : Lfts 1) (a : World.ArgsD count.signature κs) (r₁ r₂ : World.ResD count.signature κs)
    (s₁ s₂ : Clauses.AtExit (Kinds'.ended_of 1 count-kinds.ps count-kinds.r) κs)
    → count-reads.Post κs a r₁ s₁ → count-reads.Post κs a r₂ s₂ → s₁.0.now ≡ s₂.0.now
count-unique κs a r₁ r₂ s₁ s₂ p q = p ∙ sym q
