-- The contract determines the number and the answer: two exits that meet it are equal. The number is the table's, and a refusal changes
-- nothing. Assumes nothing.
use mathlib.Core.Path.{◌≡◌, refl, sym, ap, ◌∙◌}
use mathlib.Core.Bool.{Bool}
use mathlib.Core.List.{List}
use Prim.Native.Nat.{ℕ, zero, suc}
use lib.ListN.{length}
use contract.Lifetimes.{Lfts}
use borrow.Fn.World as World
use borrow.Fn.Kinds as Kinds'
use denote.Triple.Clauses as Clauses
use Rattle.ledger_steps.specs.Refusals.{refusal_of_answered}
use Rattle.ledger_steps.specs.Readers.{answered_on}
use Rattle.ledger_steps.specs.Calls.{answered_by, answered_to}
use Rattle.host_ledger.specs.Words.{ledger_at}
use Rattle.host_answered.specs.Answered.{Left, left, left_by, answered_leaves}
use Rattle.host_answered.specs.contracts.ambrulicciu_answered as answered
use Rattle.host_answered.proofs.ambrulicciu_answered.Kinds as answered-kinds
use Rattle.host_answered.proofs.ambrulicciu_answered.Reads as answered_reads

pub answered-unique :
    (κs : Lfts 4) (a : World.ArgsD answered.signature κs) (r₁ r₂ : World.ResD answered.signature κs)
    (s₁ s₂ : Clauses.AtExit (Kinds'.ended_of 4 answered-kinds.ps answered-kinds.r) κs)
    → answered_reads.Post κs a r₁ s₁ → answered_reads.Post κs a r₂ s₂
    → (r₁ ≡ r₂) × (s₁.1.1.1.1.0.now ≡ s₂.1.1.1.1.0.now)
answered-unique κs a r₁ r₂ s₁ s₂ p q =
    let e = p ∙ sym q in
    (ap (λ (x : Left). x.number) e, ap (λ (x : Left). x.answer) e)

-- ---- the number, and what a refusal leaves

number_by : (k : ℕ) (b : Bool) (before : List ℕ) → (left_by (answered_by k b) before).number ≡ k
number_by zero b before = refl
number_by (suc k) b before = refl

module _ (w : List ℕ) (probes links : List (List ℕ)) (sequence : ℕ) (before : List ℕ) where
  pub answered-number : (answered_leaves w probes links sequence before).number ≡ refusal_of_answered (ledger_at w) (length probes) (length links)
  unfolding answered_leaves answered_to
  answered-number = number_by (refusal_of_answered (ledger_at w) (length probes) (length links)) (answered_on (ledger_at w) probes links sequence) before

  -- a number that is not 0 is a refusal: the answer has not changed
  pub answered-refused : (n : ℕ) → (answered_leaves w probes links sequence before).number ≡ suc n → answered_leaves w probes links sequence before ≡ left (suc n) before
  unfolding answered_leaves answered_to
  answered-refused n e =
      let b = answered_on (ledger_at w) probes links sequence in
      ap (λ (k : ℕ). left_by (answered_by k b) before) (sym (number_by (refusal_of_answered (ledger_at w) (length probes) (length links)) b before) ∙ e)
