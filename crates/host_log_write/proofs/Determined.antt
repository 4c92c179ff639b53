-- Each contract determines the number and every lent byte: two exits that meet it are equal. Assumes nothing.
use mathlib.Core.Path.{◌≡◌, sym, ap, ◌∙◌}
use contract.Lifetimes.{Lfts}
use borrow.Fn.World as World
use borrow.Fn.Kinds as Kinds'
use denote.Triple.Clauses as Clauses
use Rattle.log_record.specs.Records.{Told}
use Rattle.host_log_write.specs.contracts.ambrulicciu_log_write_accept as accept
use Rattle.host_log_write.proofs.ambrulicciu_log_write_accept.Kinds as accept-kinds
use Rattle.host_log_write.proofs.ambrulicciu_log_write_accept.Reads as accept_reads
use Rattle.host_log_write.specs.contracts.ambrulicciu_log_write_observe as observe
use Rattle.host_log_write.proofs.ambrulicciu_log_write_observe.Kinds as observe-kinds
use Rattle.host_log_write.proofs.ambrulicciu_log_write_observe.Reads as observe-reads
use Rattle.host_log_write.specs.contracts.ambrulicciu_log_write_advance as advance
use Rattle.host_log_write.proofs.ambrulicciu_log_write_advance.Kinds as advance-kinds
use Rattle.host_log_write.proofs.ambrulicciu_log_write_advance.Reads as advance-reads
use Rattle.host_log_write.specs.contracts.ambrulicciu_log_write_idle as idle
use Rattle.host_log_write.proofs.ambrulicciu_log_write_idle.Kinds as idle-kinds
use Rattle.host_log_write.proofs.ambrulicciu_log_write_idle.Reads as idle-reads
use Rattle.host_log_write.specs.contracts.ambrulicciu_log_write_trailer as trailer
use Rattle.host_log_write.proofs.ambrulicciu_log_write_trailer.Kinds as trailer-kinds
use Rattle.host_log_write.proofs.ambrulicciu_log_write_trailer.Reads as trailer-reads

pub write-accept-unique :
    (κs : Lfts 1) (a : World.ArgsD accept.signature κs) (r₁ r₂ : World.ResD accept.signature κs)
    (s₁ s₂ : Clauses.AtExit (Kinds'.ended_of 1 accept-kinds.ps accept-kinds.r) κs)
    → accept_reads.Post κs a r₁ s₁ → accept_reads.Post κs a r₂ s₂ → (r₁ ≡ r₂) × (s₁.0.now ≡ s₂.0.now)
write-accept-unique κs a r₁ r₂ s₁ s₂ p q = let e = p ∙ sym q in (ap (λ (w : Told). w.number) e, ap (λ (w : Told). w.bytes) e)

pub write-observe-unique :
    (κs : Lfts 2) (a : World.ArgsD observe.signature κs) (r₁ r₂ : World.ResD observe.signature κs)
    (s₁ s₂ : Clauses.AtExit (Kinds'.ended_of 2 observe-kinds.ps observe-kinds.r) κs)
    → observe-reads.Post κs a r₁ s₁ → observe-reads.Post κs a r₂ s₂ → (r₁ ≡ r₂) × (s₁.0.now ≡ s₂.0.now)
write-observe-unique κs a r₁ r₂ s₁ s₂ p q = let e = p ∙ sym q in (ap (λ (w : Told). w.number) e, ap (λ (w : Told). w.bytes) e)

pub write-advance-unique :
    (κs : Lfts 1) (a : World.ArgsD advance.signature κs) (r₁ r₂ : World.ResD advance.signature κs)
    (s₁ s₂ : Clauses.AtExit (Kinds'.ended_of 1 advance-kinds.ps advance-kinds.r) κs)
    → advance-reads.Post κs a r₁ s₁ → advance-reads.Post κs a r₂ s₂ → (r₁ ≡ r₂) × (s₁.0.now ≡ s₂.0.now)
write-advance-unique κs a r₁ r₂ s₁ s₂ p q = let e = p ∙ sym q in (ap (λ (w : Told). w.number) e, ap (λ (w : Told). w.bytes) e)

pub write-idle-unique :
    (κs : Lfts 1) (a : World.ArgsD idle.signature κs) (r₁ r₂ : World.ResD idle.signature κs)
    (s₁ s₂ : Clauses.AtExit (Kinds'.ended_of 1 idle-kinds.ps idle-kinds.r) κs)
    → idle-reads.Post κs a r₁ s₁ → idle-reads.Post κs a r₂ s₂ → (r₁ ≡ r₂) × (s₁.0.now ≡ s₂.0.now)
write-idle-unique κs a r₁ r₂ s₁ s₂ p q = let e = p ∙ sym q in (ap (λ (w : Told). w.number) e, ap (λ (w : Told). w.bytes) e)

pub write-trailer-unique :
    (κs : Lfts 1) (a : World.ArgsD trailer.signature κs) (r₁ r₂ : World.ResD trailer.signature κs)
    (s₁ s₂ : Clauses.AtExit (Kinds'.ended_of 1 trailer-kinds.ps trailer-kinds.r) κs)
    → trailer-reads.Post κs a r₁ s₁ → trailer-reads.Post κs a r₂ s₂ → (r₁ ≡ r₂) × (s₁.0.now ≡ s₂.0.now)
write-trailer-unique κs a r₁ r₂ s₁ s₂ p q = let e = p ∙ sym q in (ap (λ (w : Told). w.number) e, ap (λ (w : Told). w.bytes) e)
