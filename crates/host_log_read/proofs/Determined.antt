-- Each contract determines the number and every lent word, and a refusal changes none. Assumes nothing.
use Rattle.std.specs.Prelude.{Option, Some, None, Err, Ok, Result}
use Rattle.call_types.specs.declared.Call.{Call}
use mathlib.Core.Path.{◌≡◌, refl, sym, ap, ◌∙◌}
use mathlib.Core.List.{List}
use Prim.Native.Nat.{ℕ}
use contract.Lifetimes.{Lfts}
use borrow.Fn.World as World
use borrow.Fn.Kinds as Kinds'
use denote.Triple.Clauses as Clauses
use Rattle.log_whole.specs.declared.Fault.{Fault}
use Rattle.log_whole.specs.declared.Settings.{Settings}
use Rattle.log_whole.specs.declared.Fault.TheVariants as fault
use Rattle.log_whole.specs.Logs.{log_of, call_at}
use Rattle.host_log_read.specs.Answers.{Left, checked_by, check_to, first_by, first_bad_to, read_by, read_to}
use Rattle.host_log_read.specs.contracts.ambrulicciu_log_check as check
use Rattle.host_log_read.proofs.ambrulicciu_log_check.Kinds as check-kinds
use Rattle.host_log_read.proofs.ambrulicciu_log_check.Reads as check-reads
use Rattle.host_log_read.specs.contracts.ambrulicciu_log_first_bad as first-bad
use Rattle.host_log_read.proofs.ambrulicciu_log_first_bad.Kinds as first-bad-kinds
use Rattle.host_log_read.proofs.ambrulicciu_log_first_bad.Reads as first-bad-reads
use Rattle.host_log_read.specs.contracts.ambrulicciu_log_read as read
use Rattle.host_log_read.proofs.ambrulicciu_log_read.Kinds as read-kinds
use Rattle.host_log_read.proofs.ambrulicciu_log_read.Reads as read-reads

pub check-unique :
    (κs : Lfts 2) (a : World.ArgsD check.signature κs) (r₁ r₂ : World.ResD check.signature κs)
    (s₁ s₂ : Clauses.AtExit (Kinds'.ended_of 2 check-kinds.ps check-kinds.r) κs)
    → check-reads.Post κs a r₁ s₁ → check-reads.Post κs a r₂ s₂ → (r₁ ≡ r₂) × (s₁.1.0.now ≡ s₂.1.0.now)
check-unique κs a r₁ r₂ s₁ s₂ p q = let e = p ∙ sym q in (ap (λ (x : Left). x.number) e, ap (λ (x : Left). x.words) e)

pub first-bad-unique :
    (κs : Lfts 2) (a : World.ArgsD first-bad.signature κs) (r₁ r₂ : World.ResD first-bad.signature κs)
    (s₁ s₂ : Clauses.AtExit (Kinds'.ended_of 2 first-bad-kinds.ps first-bad-kinds.r) κs)
    → first-bad-reads.Post κs a r₁ s₁ → first-bad-reads.Post κs a r₂ s₂ → (r₁ ≡ r₂) × (s₁.1.0.now ≡ s₂.1.0.now)
first-bad-unique κs a r₁ r₂ s₁ s₂ p q = let e = p ∙ sym q in (ap (λ (x : Left). x.number) e, ap (λ (x : Left). x.words) e)

pub read-unique :
    (κs : Lfts 2) (a : World.ArgsD read.signature κs) (r₁ r₂ : World.ResD read.signature κs)
    (s₁ s₂ : Clauses.AtExit (Kinds'.ended_of 2 read-kinds.ps read-kinds.r) κs)
    → read-reads.Post κs a r₁ s₁ → read-reads.Post κs a r₂ s₂ → (r₁ ≡ r₂) × (s₁.1.1.0.now ≡ s₂.1.1.0.now)
read-unique κs a r₁ r₂ s₁ s₂ p q = let e = p ∙ sym q in (ap (λ (x : Left). x.number) e, ap (λ (x : Left). x.words) e)

-- ---- a refusal changes no lent word

pub check-refused : (log ws : List ℕ) → ((check_to log ws).number ≡ 0 → ⊥) → (check_to log ws).words ≡ ws
unfolding check_to
check-refused log ws = by (log_of log)
  where
    by : (l : Result Settings Fault) → ((checked_by l ws).number ≡ 0 → ⊥) → (checked_by l ws).words ≡ ws
    by (Err f) h = refl
    by (Ok s) h = absurd (h refl)

pub first_bad-refused : (log ws : List ℕ) → ((first_bad_to log ws).number ≡ 0 → ⊥) → (first_bad_to log ws).words ≡ ws
unfolding first_bad_to
first_bad-refused log ws = by (log_of log)
  where
    by : (l : Result Settings Fault) → ((first_by l ws).number ≡ 0 → ⊥) → (first_by l ws).words ≡ ws
    by (Err fault.TooLong) h = refl
    by (Err fault.BadTrailer) h = refl
    by (Err (fault.BadRecord n)) h = absurd (h refl)
    by (Ok s) h = absurd (h refl)

pub read-refused : (log : List ℕ) (at : ℕ) (ws : List ℕ) → ((read_to log at ws).number ≡ 0 → ⊥) → (read_to log at ws).words ≡ ws
unfolding read_to
read-refused log at ws = by (call_at log at)
  where
    by : (p : Option Call) → ((read_by p (log_of log) ws).number ≡ 0 → ⊥) → (read_by p (log_of log) ws).words ≡ ws
    by None h = refl
    by (Some c) h = absurd (h refl)
