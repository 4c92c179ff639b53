-- The contracts determine the answer and every lent word: two exits that meet them are equal; and a refusal changes nothing. Assumes nothing.
use mathlib.Core.Path.{◌≡◌, refl, sym, ap, ◌∙◌}
use mathlib.Core.List.{List}
use Prim.Native.Nat.{ℕ, zero, suc}
use contract.Lifetimes.{Lfts}
use borrow.Fn.World as World
use borrow.Fn.Kinds as Kinds'
use denote.Triple.Clauses as Clauses
use Rattle.host_numbers.specs.Numbers.{is_set}
use Rattle.directions.specs.Directions as both
use Rattle.host_directions.specs.Words.{directions_at}
use Rattle.host_directions.specs.Calls.{WordsLeft, RecordLeft, record_by, record_to}
use Rattle.host_directions.specs.contracts.ambrulicciu_directions_fresh as fresh
use Rattle.host_directions.proofs.ambrulicciu_directions_fresh.Kinds as fresh-kinds
use Rattle.host_directions.proofs.ambrulicciu_directions_fresh.Reads as fresh-reads
use Rattle.host_directions.specs.contracts.ambrulicciu_directions_record as recording
use Rattle.host_directions.proofs.ambrulicciu_directions_record.Kinds as recording-kinds
use Rattle.host_directions.proofs.ambrulicciu_directions_record.Reads as recording-reads
use Rattle.host_directions.specs.contracts.ambrulicciu_directions_show as showing
use Rattle.host_directions.proofs.ambrulicciu_directions_show.Kinds as showing-kinds
use Rattle.host_directions.proofs.ambrulicciu_directions_show.Reads as showing-reads

pub fresh-unique :
    (κs : Lfts 1) (a : World.ArgsD fresh.signature κs) (r₁ r₂ : World.ResD fresh.signature κs)
    (s₁ s₂ : Clauses.AtExit (Kinds'.ended_of 1 fresh-kinds.ps fresh-kinds.r) κs)
    → fresh-reads.Post κs a r₁ s₁ → fresh-reads.Post κs a r₂ s₂ → (r₁ ≡ r₂) × (s₁.0.now ≡ s₂.0.now)
fresh-unique κs a r₁ r₂ s₁ s₂ p q = let e = p ∙ sym q in (ap (λ (l : WordsLeft). l.number) e, ap (λ (l : WordsLeft). l.words) e)

pub record-unique :
    (κs : Lfts 3) (a : World.ArgsD recording.signature κs) (r₁ r₂ : World.ResD recording.signature κs)
    (s₁ s₂ : Clauses.AtExit (Kinds'.ended_of 3 recording-kinds.ps recording-kinds.r) κs)
    → recording-reads.Post κs a r₁ s₁ → recording-reads.Post κs a r₂ s₂
    → (r₁ ≡ r₂) × (s₁.0.now ≡ s₂.0.now) × (s₁.1.0.now ≡ s₂.1.0.now) × (s₁.1.1.1.1.0.now ≡ s₂.1.1.1.1.0.now)
record-unique κs a r₁ r₂ s₁ s₂ p q =
    let e = p.0 ∙ sym q.0 in
    (ap (λ (l : RecordLeft). l.number) e, ap (λ (l : RecordLeft). l.words) e, ap (λ (l : RecordLeft). l.slice) e, ap (λ (l : RecordLeft). l.recorded) e)

pub show-unique :
    (κs : Lfts 2) (a : World.ArgsD showing.signature κs) (r₁ r₂ : World.ResD showing.signature κs)
    (s₁ s₂ : Clauses.AtExit (Kinds'.ended_of 2 showing-kinds.ps showing-kinds.r) κs)
    → showing-reads.Post κs a r₁ s₁ → showing-reads.Post κs a r₂ s₂ → (r₁ ≡ r₂) × (s₁.1.1.0.now ≡ s₂.1.1.0.now)
show-unique κs a r₁ r₂ s₁ s₂ p q = let e = p ∙ sym q in (ap (λ (l : WordsLeft). l.number) e, ap (λ (l : WordsLeft). l.words) e)

-- a refusal of `record` writes no word of either direction and none of `recorded`
pub record-refused-unchanged : (ws slice : List ℕ) (reverse v : ℕ) (rec : List ℕ) → ((record_to ws slice reverse v rec).number ≡ 0 → ⊥) → ((record_to ws slice reverse v rec).words ≡ ws) × ((record_to ws slice reverse v rec).recorded ≡ rec)
unfolding record_to
record-refused-unchanged ws slice reverse v rec = let o = both.record_in (directions_at ws) slice (is_set reverse) v in by o.number o
  where
    by : (n : ℕ) (o : both.Outcome) → ((record_by (is_set reverse) n o ws rec).number ≡ 0 → ⊥) → ((record_by (is_set reverse) n o ws rec).words ≡ ws) × ((record_by (is_set reverse) n o ws rec).recorded ≡ rec)
    by zero o h = absurd (h refl)
    by (suc n) o h = (refl, refl)
