-- The contracts determine every answer and every lent word: two exits that meet them are equal.
-- Assumes nothing.
use mathlib.Core.Path.{◌≡◌, sym, ap, ◌∙◌}
use contract.Lifetimes.{Lfts}
use borrow.Fn.World as World
use borrow.Fn.Kinds as Kinds'
use denote.Triple.Clauses as Clauses
use Rattle.probe_ring.specs.Rooms.{Outcome}
use Rattle.probe_ring.specs.contracts.find as find
use Rattle.probe_ring.proofs.find.Kinds as find-kinds
use Rattle.probe_ring.proofs.find.Reads as find-reads
use Rattle.probe_ring.specs.contracts.get as get
use Rattle.probe_ring.proofs.get.Kinds as get-kinds
use Rattle.probe_ring.proofs.get.Reads as get-reads
use Rattle.probe_ring.specs.contracts.put as put
use Rattle.probe_ring.proofs.put.Kinds as put-kinds
use Rattle.probe_ring.proofs.put.Reads as put_reads
use Rattle.probe_ring.specs.contracts.push as push
use Rattle.probe_ring.proofs.push.Kinds as push-kinds
use Rattle.probe_ring.proofs.push.Reads as push-reads
use Rattle.probe_ring.specs.contracts.remember as remember
use Rattle.probe_ring.proofs.remember.Kinds as remember-kinds
use Rattle.probe_ring.proofs.remember.Reads as remember-reads

pub find-unique :
    (κs : Lfts 2) (a : World.ArgsD find.signature κs) (r₁ r₂ : World.ResD find.signature κs)
    (s₁ s₂ : Clauses.AtExit (Kinds'.ended_of 2 find-kinds.ps find-kinds.r) κs)
    → find-reads.Post κs a r₁ s₁ → find-reads.Post κs a r₂ s₂ → r₁ ≡ r₂
find-unique κs a r₁ r₂ s₁ s₂ p q = p ∙ sym q

pub get-unique :
    (κs : Lfts 1) (a : World.ArgsD get.signature κs) (r₁ r₂ : World.ResD get.signature κs)
    (s₁ s₂ : Clauses.AtExit (Kinds'.ended_of 1 get-kinds.ps get-kinds.r) κs)
    → get-reads.Post κs a r₁ s₁ → get-reads.Post κs a r₂ s₂ → r₁ ≡ r₂
get-unique κs a r₁ r₂ s₁ s₂ p q = p ∙ sym q

pub put-unique :
    (κs : Lfts 1) (a : World.ArgsD put.signature κs) (r₁ r₂ : World.ResD put.signature κs)
    (s₁ s₂ : Clauses.AtExit (Kinds'.ended_of 1 put-kinds.ps put-kinds.r) κs)
    → put_reads.Post κs a r₁ s₁ → put_reads.Post κs a r₂ s₂ → s₁.0.now ≡ s₂.0.now
put-unique κs a r₁ r₂ s₁ s₂ p q = p ∙ sym q

pub push-unique :
    (κs : Lfts 2) (a : World.ArgsD push.signature κs) (r₁ r₂ : World.ResD push.signature κs)
    (s₁ s₂ : Clauses.AtExit (Kinds'.ended_of 2 push-kinds.ps push-kinds.r) κs)
    → push-reads.Post κs a r₁ s₁ → push-reads.Post κs a r₂ s₂
    → (r₁ ≡ r₂) × (s₁.0.now ≡ s₂.0.now) × (s₁.1.0.now ≡ s₂.1.0.now)
push-unique κs a r₁ r₂ s₁ s₂ p q =
    let e = p.0 ∙ sym q.0 in
    (ap (λ (x : Outcome). x.answer) e, ap (λ (x : Outcome). x.rows) e, ap (λ (x : Outcome). x.links) e)

pub remember-unique :
    (κs : Lfts 2) (a : World.ArgsD remember.signature κs) (r₁ r₂ : World.ResD remember.signature κs)
    (s₁ s₂ : Clauses.AtExit (Kinds'.ended_of 2 remember-kinds.ps remember-kinds.r) κs)
    → remember-reads.Post κs a r₁ s₁ → remember-reads.Post κs a r₂ s₂
    → (r₁ ≡ r₂) × (s₁.0.now ≡ s₂.0.now) × (s₁.1.0.now ≡ s₂.1.0.now)
remember-unique κs a r₁ r₂ s₁ s₂ p q =
    let e = p.0 ∙ sym q.0 in
    (ap (λ (x : Outcome). x.answer) e, ap (λ (x : Outcome). x.rows) e, ap (λ (x : Outcome). x.links) e)
