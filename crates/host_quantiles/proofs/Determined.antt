-- The contracts determine the answer and every lent word: two exits that meet them are equal. Assumes nothing.
use mathlib.Core.Path.{◌≡◌, sym, ap, ◌∙◌}
use contract.Lifetimes.{Lfts}
use borrow.Fn.World as World
use borrow.Fn.Kinds as Kinds'
use denote.Triple.Clauses as Clauses
use Rattle.host_quantiles.specs.Calls.{Started, RecordLeft, PercentilesLeft}
use Rattle.host_quantiles.specs.contracts.ambrulicciu_quantiles_fresh as fresh
use Rattle.host_quantiles.proofs.ambrulicciu_quantiles_fresh.Kinds as fresh-kinds
use Rattle.host_quantiles.proofs.ambrulicciu_quantiles_fresh.Reads as fresh-reads
use Rattle.host_quantiles.specs.contracts.ambrulicciu_quantiles_record as recording
use Rattle.host_quantiles.proofs.ambrulicciu_quantiles_record.Kinds as recording-kinds
use Rattle.host_quantiles.proofs.ambrulicciu_quantiles_record.Reads as recording-reads
use Rattle.host_quantiles.specs.contracts.ambrulicciu_quantiles_percentiles as showing
use Rattle.host_quantiles.proofs.ambrulicciu_quantiles_percentiles.Kinds as showing-kinds
use Rattle.host_quantiles.proofs.ambrulicciu_quantiles_percentiles.Reads as showing-reads

pub fresh-unique :
    (κs : Lfts 1) (a : World.ArgsD fresh.signature κs) (r₁ r₂ : World.ResD fresh.signature κs)
    (s₁ s₂ : Clauses.AtExit (Kinds'.ended_of 1 fresh-kinds.ps fresh-kinds.r) κs)
    → fresh-reads.Post κs a r₁ s₁ → fresh-reads.Post κs a r₂ s₂ → (r₁ ≡ r₂) × (s₁.0.now ≡ s₂.0.now)
fresh-unique κs a r₁ r₂ s₁ s₂ p q = let e = p ∙ sym q in (ap (λ (l : Started). l.number) e, ap (λ (l : Started). l.words) e)

pub record-unique :
    (κs : Lfts 3) (a : World.ArgsD recording.signature κs) (r₁ r₂ : World.ResD recording.signature κs)
    (s₁ s₂ : Clauses.AtExit (Kinds'.ended_of 3 recording-kinds.ps recording-kinds.r) κs)
    → recording-reads.Post κs a r₁ s₁ → recording-reads.Post κs a r₂ s₂
    → (r₁ ≡ r₂) × (s₁.0.now ≡ s₂.0.now) × (s₁.1.0.now ≡ s₂.1.0.now) × (s₁.1.1.1.0.now ≡ s₂.1.1.1.0.now)
record-unique κs a r₁ r₂ s₁ s₂ p q =
    let e = p ∙ sym q in
    (ap (λ (l : RecordLeft). l.number) e, ap (λ (l : RecordLeft). l.words) e, ap (λ (l : RecordLeft). l.room) e, ap (λ (l : RecordLeft). l.recorded) e)

pub percentiles-unique :
    (κs : Lfts 5) (a : World.ArgsD showing.signature κs) (r₁ r₂ : World.ResD showing.signature κs)
    (s₁ s₂ : Clauses.AtExit (Kinds'.ended_of 5 showing-kinds.ps showing-kinds.r) κs)
    → showing-reads.Post κs a r₁ s₁ → showing-reads.Post κs a r₂ s₂
    → (r₁ ≡ r₂) × (s₁.1.1.1.0.now ≡ s₂.1.1.1.0.now) × (s₁.1.1.1.1.0.now ≡ s₂.1.1.1.1.0.now)
percentiles-unique κs a r₁ r₂ s₁ s₂ p q =
    let e = p ∙ sym q in (ap (λ (l : PercentilesLeft). l.number) e, ap (λ (l : PercentilesLeft). l.shown) e, ap (λ (l : PercentilesLeft). l.present) e)
