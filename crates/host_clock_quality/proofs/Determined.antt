-- The contracts determine the answer and every lent word: two exits that meet them are equal. Assumes nothing.
use mathlib.Core.Path.{◌≡◌, sym, ap, ◌∙◌}
use contract.Lifetimes.{Lfts}
use borrow.Fn.World as World
use borrow.Fn.Kinds as Kinds'
use denote.Triple.Clauses as Clauses
use Rattle.host_clock_quality.specs.Calls.{Left}
use Rattle.host_clock_quality.specs.contracts.ambrulicciu_clock_quality_fresh as fresh
use Rattle.host_clock_quality.proofs.ambrulicciu_clock_quality_fresh.Kinds as fresh-kinds
use Rattle.host_clock_quality.proofs.ambrulicciu_clock_quality_fresh.Reads as fresh-reads
use Rattle.host_clock_quality.specs.contracts.ambrulicciu_clock_quality_record as recording
use Rattle.host_clock_quality.proofs.ambrulicciu_clock_quality_record.Kinds as recording-kinds
use Rattle.host_clock_quality.proofs.ambrulicciu_clock_quality_record.Reads as recording-reads

pub fresh-unique :
    (κs : Lfts 1) (a : World.ArgsD fresh.signature κs) (r₁ r₂ : World.ResD fresh.signature κs)
    (s₁ s₂ : Clauses.AtExit (Kinds'.ended_of 1 fresh-kinds.ps fresh-kinds.r) κs)
    → fresh-reads.Post κs a r₁ s₁ → fresh-reads.Post κs a r₂ s₂ → (r₁ ≡ r₂) × (s₁.0.now ≡ s₂.0.now)
fresh-unique κs a r₁ r₂ s₁ s₂ p q = let e = p ∙ sym q in (ap (λ (l : Left). l.number) e, ap (λ (l : Left). l.words) e)

pub record-unique :
    (κs : Lfts 1) (a : World.ArgsD recording.signature κs) (r₁ r₂ : World.ResD recording.signature κs)
    (s₁ s₂ : Clauses.AtExit (Kinds'.ended_of 1 recording-kinds.ps recording-kinds.r) κs)
    → recording-reads.Post κs a r₁ s₁ → recording-reads.Post κs a r₂ s₂ → (r₁ ≡ r₂) × (s₁.0.now ≡ s₂.0.now)
record-unique κs a r₁ r₂ s₁ s₂ p q = let e = p ∙ sym q in (ap (λ (l : Left). l.number) e, ap (λ (l : Left). l.words) e)
