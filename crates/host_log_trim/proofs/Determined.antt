-- The contract determines the number, every lent byte and every lent word; a refusal changes none. Assumes nothing.
use mathlib.Core.Path.{◌≡◌, refl, sym, ap, ◌∙◌}
use mathlib.Core.List.{List}
use Prim.Native.Nat.{ℕ}
use contract.Lifetimes.{Lfts}
use borrow.Fn.World as World
use borrow.Fn.Kinds as Kinds'
use denote.Triple.Clauses as Clauses
use Rattle.std.specs.Prelude.{Result, Ok, Err}
use Rattle.limits.specs.declared.Refusal.{Refusal}
use Rattle.limits.specs.Numbers.{number_of}
use Rattle.log_trim.specs.declared.Cut.{Cut}
use Rattle.log_trim.specs.Trimmed.{trim_to}
use Rattle.log_trim.proofs.Determined.{refused_writes_nothing}
use Rattle.host_log_trim.specs.Told as told
use Rattle.host_log_trim.specs.Told.{cut_words, told_by, trim_told}
use Rattle.host_log_trim.specs.contracts.ambrulicciu_log_trim as trim
use Rattle.host_log_trim.proofs.ambrulicciu_log_trim.Kinds as trim-kinds
use Rattle.host_log_trim.proofs.ambrulicciu_log_trim.Reads as trim-reads

pub log-trim-unique :
    (κs : Lfts 3) (a : World.ArgsD trim.signature κs) (r₁ r₂ : World.ResD trim.signature κs)
    (s₁ s₂ : Clauses.AtExit (Kinds'.ended_of 3 trim-kinds.ps trim-kinds.r) κs)
    → trim-reads.Post κs a r₁ s₁ → trim-reads.Post κs a r₂ s₂
    → (r₁ ≡ r₂) × (s₁.1.1.1.1.0.now ≡ s₂.1.1.1.1.0.now) × (s₁.1.1.1.1.1.0.now ≡ s₂.1.1.1.1.1.0.now)
log-trim-unique κs a r₁ r₂ s₁ s₂ p q =
    let e = p ∙ sym q in
    (ap (λ (x : told.Left). x.number) e, ap (λ (x : told.Left). x.bytes) e, ap (λ (x : told.Left). x.words) e)

-- a refusal writes nothing
pub log_trim-refused : (log : List ℕ) (copies threshold timeout : ℕ) (bs ws : List ℕ) → ((trim_told log copies threshold timeout bs ws).number ≡ 0 → ⊥)
    → trim_told log copies threshold timeout bs ws ≡ told.left (trim_told log copies threshold timeout bs ws).number bs ws
unfolding trim_told
log_trim-refused log copies threshold timeout bs ws = by (trim_to log copies threshold timeout bs).answer refl
  where
    by : (t : Result Cut Refusal) → (trim_to log copies threshold timeout bs).answer ≡ t → ((told_by t (trim_to log copies threshold timeout bs).room ws).number ≡ 0 → ⊥)
        → told_by t (trim_to log copies threshold timeout bs).room ws ≡ told.left (told_by t (trim_to log copies threshold timeout bs).room ws).number bs ws
    by (Ok c) e h = absurd (h refl)
    by (Err r) e h = ap (λ (x : List ℕ). told.left (number_of r) x ws) (refused_writes_nothing log copies threshold timeout bs r e)
