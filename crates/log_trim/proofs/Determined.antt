-- The contract determines the answer and every lent byte, and a refusal changes none. Assumes nothing.
use mathlib.Core.Path.{◌≡◌, sym, ap, ◌∙◌}
use mathlib.Core.List.{List}
use Prim.Native.Nat.{ℕ}
use contract.Lifetimes.{Lfts}
use borrow.Fn.World as World
use borrow.Fn.Kinds as Kinds'
use denote.Triple.Clauses as Clauses
use Rattle.log_cut.specs.Cut.{output_of}
use Rattle.std.specs.Prelude.{Result, Err}
use Rattle.limits.specs.declared.Refusal.{Refusal}
use Rattle.log_trim.specs.declared.Cut.{Cut}
use Rattle.log_trim.specs.Trimmed.{Left, room_after, trim_to}
use Rattle.log_trim.specs.contracts.trim as trim
use Rattle.log_trim.proofs.trim.Kinds as trim-kinds
use Rattle.log_trim.proofs.trim.Reads as trim-reads

pub trim-unique :
    (κs : Lfts 2) (a : World.ArgsD trim.signature κs) (r₁ r₂ : World.ResD trim.signature κs)
    (s₁ s₂ : Clauses.AtExit (Kinds'.ended_of 2 trim-kinds.ps trim-kinds.r) κs)
    → trim-reads.Post κs a r₁ s₁ → trim-reads.Post κs a r₂ s₂ → (r₁ ≡ r₂) × (s₁.1.1.1.1.0.now ≡ s₂.1.1.1.1.0.now)
trim-unique κs a r₁ r₂ s₁ s₂ p q = let e = p ∙ sym q in (ap (λ (x : Left). x.answer) e, ap (λ (x : Left). x.room) e)

-- where the answer is a refusal the room is as it was
pub refused_writes_nothing : (bs : List ℕ) (copies threshold timeout : ℕ) (room : List ℕ) (r : Refusal)
    → (trim_to bs copies threshold timeout room).answer ≡ Err r → (trim_to bs copies threshold timeout room).room ≡ room
unfolding trim_to
refused_writes_nothing bs copies threshold timeout room r e = ap (λ (a : Result Cut Refusal). room_after a (output_of bs copies threshold timeout) room) e
