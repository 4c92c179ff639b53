-- The contracts determine the answer and every lent word: two exits that meet them are equal; and a refusal changes nothing. Assumes nothing.
use mathlib.Core.Path.{◌≡◌, refl, sym, ap, ◌∙◌}
use mathlib.Core.List.{List}
use Prim.Native.Nat.{ℕ, zero, suc}
use contract.Lifetimes.{Lfts}
use borrow.Fn.World as World
use borrow.Fn.Kinds as Kinds'
use denote.Triple.Clauses as Clauses
use Rattle.spread.specs.Record as record-call
use Rattle.host_spread.specs.Words.{collector_at}
use Rattle.host_spread.specs.Calls.{WordsLeft, RecordLeft, record_by, record_to}
use Rattle.host_spread.specs.contracts.ambrulicciu_spread_fresh as fresh
use Rattle.host_spread.proofs.ambrulicciu_spread_fresh.Kinds as fresh-kinds
use Rattle.host_spread.proofs.ambrulicciu_spread_fresh.Reads as fresh-reads
use Rattle.host_spread.specs.contracts.ambrulicciu_spread_record as recording
use Rattle.host_spread.proofs.ambrulicciu_spread_record.Kinds as recording-kinds
use Rattle.host_spread.proofs.ambrulicciu_spread_record.Reads as recording-reads
use Rattle.host_spread.specs.contracts.ambrulicciu_spread_show as showing
use Rattle.host_spread.proofs.ambrulicciu_spread_show.Kinds as showing-kinds
use Rattle.host_spread.proofs.ambrulicciu_spread_show.Reads as showing-reads

pub fresh-unique :
    (κs : Lfts 1) (a : World.ArgsD fresh.signature κs) (r₁ r₂ : World.ResD fresh.signature κs)
    (s₁ s₂ : Clauses.AtExit (Kinds'.ended_of 1 fresh-kinds.ps fresh-kinds.r) κs)
    → fresh-reads.Post κs a r₁ s₁ → fresh-reads.Post κs a r₂ s₂ → (r₁ ≡ r₂) × (s₁.0.now ≡ s₂.0.now)
fresh-unique κs a r₁ r₂ s₁ s₂ p q = let e = p ∙ sym q in (ap (λ (l : WordsLeft). l.number) e, ap (λ (l : WordsLeft). l.words) e)

pub record-unique :
    (κs : Lfts 3) (a : World.ArgsD recording.signature κs) (r₁ r₂ : World.ResD recording.signature κs)
    (s₁ s₂ : Clauses.AtExit (Kinds'.ended_of 3 recording-kinds.ps recording-kinds.r) κs)
    → recording-reads.Post κs a r₁ s₁ → recording-reads.Post κs a r₂ s₂
    → (r₁ ≡ r₂) × (s₁.0.now ≡ s₂.0.now) × (s₁.1.0.now ≡ s₂.1.0.now) × (s₁.1.1.1.0.now ≡ s₂.1.1.1.0.now)
record-unique κs a r₁ r₂ s₁ s₂ p q =
    let e = p ∙ sym q in
    (ap (λ (l : RecordLeft). l.number) e, ap (λ (l : RecordLeft). l.words) e, ap (λ (l : RecordLeft). l.room) e, ap (λ (l : RecordLeft). l.recorded) e)

pub show-unique :
    (κs : Lfts 2) (a : World.ArgsD showing.signature κs) (r₁ r₂ : World.ResD showing.signature κs)
    (s₁ s₂ : Clauses.AtExit (Kinds'.ended_of 2 showing-kinds.ps showing-kinds.r) κs)
    → showing-reads.Post κs a r₁ s₁ → showing-reads.Post κs a r₂ s₂ → (r₁ ≡ r₂) × (s₁.1.0.now ≡ s₂.1.0.now)
show-unique κs a r₁ r₂ s₁ s₂ p q = let e = p ∙ sym q in (ap (λ (l : WordsLeft). l.number) e, ap (λ (l : WordsLeft). l.words) e)

-- a refusal of `record` writes no word of the collector and none of `recorded`
pub record-refused-unchanged : (ws room : List ℕ) (v : ℕ) (rec : List ℕ) → ((record_to ws room v rec).number ≡ 0 → ⊥) → ((record_to ws room v rec).words ≡ ws) × ((record_to ws room v rec).recorded ≡ rec)
unfolding record_to
record-refused-unchanged ws room v rec = let o = record-call.record_to (collector_at ws) room v in by o.number o
  where
    by : (n : ℕ) (o : record-call.Outcome) → ((record_by n o ws rec).number ≡ 0 → ⊥) → ((record_by n o ws rec).words ≡ ws) × ((record_by n o ws rec).recorded ≡ rec)
    by zero o h = absurd (h refl)
    by (suc n) o h = (refl, refl)
