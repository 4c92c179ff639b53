-- The contracts determine the answer and every lent word: two exits that meet them are equal. Assumes nothing.
use mathlib.Core.Path.{◌≡◌, sym, ap, ◌∙◌}
use contract.Lifetimes.{Lfts}
use borrow.Fn.World as World
use borrow.Fn.Kinds as Kinds'
use denote.Triple.Clauses as Clauses
use Rattle.host_estimate.specs.Calls.{Left, LeftSeconds, LeftReading}
use Rattle.host_estimate.specs.contracts.ambrulicciu_estimate_new as new
use Rattle.host_estimate.proofs.ambrulicciu_estimate_new.Kinds as new-kinds
use Rattle.host_estimate.proofs.ambrulicciu_estimate_new.Reads as new-reads
use Rattle.host_estimate.specs.contracts.ambrulicciu_estimate_unsynchronized as unsynchronized
use Rattle.host_estimate.proofs.ambrulicciu_estimate_unsynchronized.Kinds as unsynchronized-kinds
use Rattle.host_estimate.proofs.ambrulicciu_estimate_unsynchronized.Reads as unsynchronized-reads
use Rattle.host_estimate.specs.contracts.ambrulicciu_estimate_parts as parts
use Rattle.host_estimate.proofs.ambrulicciu_estimate_parts.Kinds as parts-kinds
use Rattle.host_estimate.proofs.ambrulicciu_estimate_parts.Reads as parts-reads
use Rattle.host_estimate.specs.contracts.ambrulicciu_estimate_seconds as seconds
use Rattle.host_estimate.proofs.ambrulicciu_estimate_seconds.Kinds as seconds-kinds
use Rattle.host_estimate.proofs.ambrulicciu_estimate_seconds.Reads as seconds-reads
use Rattle.host_estimate.specs.contracts.ambrulicciu_estimate_error as error
use Rattle.host_estimate.proofs.ambrulicciu_estimate_error.Kinds as error-kinds
use Rattle.host_estimate.proofs.ambrulicciu_estimate_error.Reads as error-reads

pub new-unique :
    (κs : Lfts 1) (a : World.ArgsD new.signature κs) (r₁ r₂ : World.ResD new.signature κs)
    (s₁ s₂ : Clauses.AtExit (Kinds'.ended_of 1 new-kinds.ps new-kinds.r) κs)
    → new-reads.Post κs a r₁ s₁ → new-reads.Post κs a r₂ s₂ → (r₁ ≡ r₂) × (s₁.1.1.1.1.0.now ≡ s₂.1.1.1.1.0.now)
new-unique κs a r₁ r₂ s₁ s₂ p q = let e = p ∙ sym q in (ap (λ (l : Left). l.number) e, ap (λ (l : Left). l.words) e)

pub unsynchronized-unique :
    (κs : Lfts 1) (a : World.ArgsD unsynchronized.signature κs) (r₁ r₂ : World.ResD unsynchronized.signature κs)
    (s₁ s₂ : Clauses.AtExit (Kinds'.ended_of 1 unsynchronized-kinds.ps unsynchronized-kinds.r) κs)
    → unsynchronized-reads.Post κs a r₁ s₁ → unsynchronized-reads.Post κs a r₂ s₂ → (r₁ ≡ r₂) × (s₁.1.0.now ≡ s₂.1.0.now)
unsynchronized-unique κs a r₁ r₂ s₁ s₂ p q = let e = p ∙ sym q in (ap (λ (l : Left). l.number) e, ap (λ (l : Left). l.words) e)

pub parts-unique :
    (κs : Lfts 1) (a : World.ArgsD parts.signature κs) (r₁ r₂ : World.ResD parts.signature κs)
    (s₁ s₂ : Clauses.AtExit (Kinds'.ended_of 1 parts-kinds.ps parts-kinds.r) κs)
    → parts-reads.Post κs a r₁ s₁ → parts-reads.Post κs a r₂ s₂ → (r₁ ≡ r₂) × (s₁.1.0.now ≡ s₂.1.0.now)
parts-unique κs a r₁ r₂ s₁ s₂ p q = let e = p ∙ sym q in (ap (λ (l : Left). l.number) e, ap (λ (l : Left). l.words) e)

pub seconds-unique :
    (κs : Lfts 1) (a : World.ArgsD seconds.signature κs) (r₁ r₂ : World.ResD seconds.signature κs)
    (s₁ s₂ : Clauses.AtExit (Kinds'.ended_of 1 seconds-kinds.ps seconds-kinds.r) κs)
    → seconds-reads.Post κs a r₁ s₁ → seconds-reads.Post κs a r₂ s₂ → (r₁ ≡ r₂) × (s₁.1.0.now ≡ s₂.1.0.now)
seconds-unique κs a r₁ r₂ s₁ s₂ p q = let e = p.is ∙ sym q.is in (ap (λ (l : LeftSeconds). l.number) e, ap (λ (l : LeftSeconds). l.seconds) e)

pub error-unique :
    (κs : Lfts 3) (a : World.ArgsD error.signature κs) (r₁ r₂ : World.ResD error.signature κs)
    (s₁ s₂ : Clauses.AtExit (Kinds'.ended_of 3 error-kinds.ps error-kinds.r) κs)
    → error-reads.Post κs a r₁ s₁ → error-reads.Post κs a r₂ s₂
    → (r₁ ≡ r₂) × (s₁.1.0.now ≡ s₂.1.0.now) × (s₁.1.1.0.now ≡ s₂.1.1.0.now) × (s₁.1.1.1.0.now ≡ s₂.1.1.1.0.now)
error-unique κs a r₁ r₂ s₁ s₂ p q =
    let e = p.is ∙ sym q.is in (
      ap (λ (l : LeftReading). l.number) e,
      ap (λ (l : LeftReading). l.known) e,
      ap (λ (l : LeftReading). l.milliseconds) e,
      ap (λ (l : LeftReading). l.received) e,
    )
