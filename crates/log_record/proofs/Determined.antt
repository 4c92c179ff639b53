-- The contracts determine every answer and every lent byte: two exits that meet them are equal. Assumes nothing.
use mathlib.Core.Path.{◌≡◌, refl, sym, ap, ◌∙◌}
use mathlib.Core.List.{List}
use Prim.Native.Nat.{ℕ}
use contract.Lifetimes.{Lfts}
use borrow.Fn.World as World
use borrow.Fn.Kinds as Kinds'
use denote.Triple.Clauses as Clauses
use Rattle.std.specs.Prelude.{Result, Ok, Err}
use Rattle.limits.specs.declared.Refusal.{Refusal}
use Rattle.record_parts.specs.declared.Entry.{Entry}
use Rattle.log_record.specs.Records.{Wrote, write_answer, bytes_after, number_in, told_of, written_to}
use Rattle.log_record.specs.contracts.read as read
use Rattle.log_record.proofs.read.Kinds as read-kinds
use Rattle.log_record.proofs.read.Reads as read-reads
use Rattle.log_record.specs.contracts.write as write
use Rattle.log_record.proofs.write.Kinds as write-kinds
use Rattle.log_record.proofs.write.Reads as write-reads

pub read-unique :
    (κs : Lfts 1) (a : World.ArgsD read.signature κs) (r₁ r₂ : World.ResD read.signature κs)
    (s₁ s₂ : Clauses.AtExit (Kinds'.ended_of 1 read-kinds.ps read-kinds.r) κs)
    → read-reads.Post κs a r₁ s₁ → read-reads.Post κs a r₂ s₂ → r₁ ≡ r₂
read-unique κs a r₁ r₂ s₁ s₂ p q = p ∙ sym q

pub write-unique :
    (κs : Lfts 1) (a : World.ArgsD write.signature κs) (r₁ r₂ : World.ResD write.signature κs)
    (s₁ s₂ : Clauses.AtExit (Kinds'.ended_of 1 write-kinds.ps write-kinds.r) κs)
    → write-reads.Post κs a r₁ s₁ → write-reads.Post κs a r₂ s₂ → (r₁ ≡ r₂) × (s₁.0.now ≡ s₂.0.now)
write-unique κs a r₁ r₂ s₁ s₂ p q = let e = p ∙ sym q in (ap (λ (w : Wrote). w.answer) e, ap (λ (w : Wrote). w.bytes) e)

-- a refusal changes nothing
pub refusal_changes_nothing : (bs : List ℕ) (c : Entry) → ((told_of (written_to bs c)).number ≡ 0 → ⊥) → (written_to bs c).bytes ≡ bs
unfolding written_to
refusal_changes_nothing bs c n = by (write_answer bs c) n
  where
    by : (a : Result Unit Refusal) → (number_in a ≡ 0 → ⊥) → bytes_after a c bs ≡ bs
    by (Ok u) h = absurd (h refl)
    by (Err r) h = refl
