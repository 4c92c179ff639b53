-- The contracts determine every answer and every lent byte: two exits that meet them are equal. Assumes nothing.
use mathlib.Core.Path.{◌≡◌, refl, sym, ap, ◌∙◌}
use mathlib.Core.List.{List}
use Prim.Native.Nat.{ℕ}
use contract.Lifetimes.{Lfts}
use borrow.Fn.World as World
use borrow.Fn.Kinds as Kinds'
use denote.Triple.Clauses as Clauses
use Rattle.std.specs.Prelude.{Result, Ok, Err}
use Rattle.limits.specs.declared.Refusal.{Refusal}
use Rattle.log_record.specs.Records.{Wrote, number_in, told_of}
use Rattle.log_whole.specs.Logs.{trailer_answer, trailer_after, trailer_over, trailer_to}
use Rattle.log_whole.specs.contracts.check as check
use Rattle.log_whole.proofs.check.Kinds as check-kinds
use Rattle.log_whole.proofs.check.Reads as check-reads
use Rattle.log_whole.specs.contracts.call_at as call_at
use Rattle.log_whole.proofs.call_at.Kinds as call-at-kinds
use Rattle.log_whole.proofs.call_at.Reads as call-at-reads
use Rattle.log_whole.specs.contracts.trailer.write as write
use Rattle.log_whole.proofs.trailer.write.Kinds as write-kinds
use Rattle.log_whole.proofs.trailer.write.Reads as write-reads

pub check-unique :
    (κs : Lfts 1) (a : World.ArgsD check.signature κs) (r₁ r₂ : World.ResD check.signature κs)
    (s₁ s₂ : Clauses.AtExit (Kinds'.ended_of 1 check-kinds.ps check-kinds.r) κs)
    → check-reads.Post κs a r₁ s₁ → check-reads.Post κs a r₂ s₂ → r₁ ≡ r₂
check-unique κs a r₁ r₂ s₁ s₂ p q = p ∙ sym q

pub call-at-unique :
    (κs : Lfts 1) (a : World.ArgsD call_at.signature κs) (r₁ r₂ : World.ResD call_at.signature κs)
    (s₁ s₂ : Clauses.AtExit (Kinds'.ended_of 1 call-at-kinds.ps call-at-kinds.r) κs)
    → call-at-reads.Post κs a r₁ s₁ → call-at-reads.Post κs a r₂ s₂ → r₁ ≡ r₂
call-at-unique κs a r₁ r₂ s₁ s₂ p q = p ∙ sym q

pub write-unique :
    (κs : Lfts 1) (a : World.ArgsD write.signature κs) (r₁ r₂ : World.ResD write.signature κs)
    (s₁ s₂ : Clauses.AtExit (Kinds'.ended_of 1 write-kinds.ps write-kinds.r) κs)
    → write-reads.Post κs a r₁ s₁ → write-reads.Post κs a r₂ s₂ → (r₁ ≡ r₂) × (s₁.0.now ≡ s₂.0.now)
write-unique κs a r₁ r₂ s₁ s₂ p q = let e = p ∙ sym q in (ap (λ (w : Wrote). w.answer) e, ap (λ (w : Wrote). w.bytes) e)

-- a refusal changes nothing
pub refusal_changes_nothing : (bs : List ℕ) (count copies threshold timeout : ℕ) → ((told_of (trailer_to bs count copies threshold timeout)).number ≡ 0 → ⊥)
    → (trailer_to bs count copies threshold timeout).bytes ≡ bs
unfolding trailer_to
refusal_changes_nothing bs count copies threshold timeout n = by (trailer_answer bs count) n
  where
    by : (a : Result Unit Refusal) → (number_in a ≡ 0 → ⊥) → trailer_after a (trailer_over bs count copies threshold timeout) bs ≡ bs
    by (Ok u) h = absurd (h refl)
    by (Err r) h = refl
