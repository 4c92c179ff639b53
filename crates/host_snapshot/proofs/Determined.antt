-- The contract determines the number and every word shown: two exits that meet it are equal. Assumes nothing.
use mathlib.Core.Path.{◌≡◌, sym, ap, ◌∙◌}
use contract.Lifetimes.{Lfts}
use borrow.Fn.World as World
use borrow.Fn.Kinds as Kinds'
use denote.Triple.Clauses as Clauses
use Rattle.host_snapshot.specs.Snapshot.{Left}
use Rattle.host_snapshot.specs.contracts.ambrulicciu_snapshot as snapshot
use Rattle.host_snapshot.proofs.ambrulicciu_snapshot.Kinds as snapshot-kinds
use Rattle.host_snapshot.proofs.ambrulicciu_snapshot.Reads as snapshot_reads

pub snapshot-unique :
    (κs : Lfts 2) (a : World.ArgsD snapshot.signature κs) (r₁ r₂ : World.ResD snapshot.signature κs)
    (s₁ s₂ : Clauses.AtExit (Kinds'.ended_of 2 snapshot-kinds.ps snapshot-kinds.r) κs)
    → snapshot_reads.Post κs a r₁ s₁ → snapshot_reads.Post κs a r₂ s₂
    → (r₁ ≡ r₂) × (s₁.1.0.now ≡ s₂.1.0.now)
snapshot-unique κs a r₁ r₂ s₁ s₂ p q =
    let e = p ∙ sym q in
    (ap (λ (x : Left). x.number) e, ap (λ (x : Left). x.shown) e)
