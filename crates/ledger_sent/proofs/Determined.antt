-- The contract of `answered` determines the answer: two exits that meet it are equal. A refusal is exactly the table's. Assumes nothing.
use mathlib.Core.Path.{◌≡◌, refl, sym, ◌∙◌}
use mathlib.Core.Bool.{Bool}
use mathlib.Core.List.{List}
use Prim.Native.Nat.{ℕ, zero, suc}
use contract.Lifetimes.{Lfts}
use Rattle.limits.proofs.Numbers.{numbered_unique}
use borrow.Fn.World as World
use borrow.Fn.Kinds as Kinds'
use denote.Triple.Clauses as Clauses
use lib.ListN.{length}
use Rattle.ledger_state.specs.declared.Ledger.{Ledger}
use Rattle.ledger_steps.specs.Refusals.{refusal_of_answered}
use Rattle.ledger_steps.specs.Readers.{answered_on}
use Rattle.ledger_steps.specs.Calls.{answered_number, answered_by, answered_to}
use Rattle.ledger_sent.specs.contracts.answered as answered
use Rattle.ledger_sent.proofs.answered.Kinds as answered-kinds
use Rattle.ledger_sent.proofs.answered.Reads as answered_reads

pub answered-unique :
    (κs : Lfts 2) (a : World.ArgsD answered.signature κs) (r₁ r₂ : World.ResD answered.signature κs)
    (s₁ s₂ : Clauses.AtExit (Kinds'.ended_of 2 answered-kinds.ps answered-kinds.r) κs)
    → answered_reads.Post κs a r₁ s₁ → answered_reads.Post κs a r₂ s₂ → r₁ ≡ r₂
answered-unique κs a r₁ r₂ s₁ s₂ p q = numbered_unique r₁ r₂ (p ∙ sym q)

-- ---- the number of an answer is the table's

answered_number-by : (k : ℕ) (b : Bool) → answered_number (answered_by k b) ≡ k
answered_number-by zero b = refl
answered_number-by (suc k) b = refl

pub answered-number :
    (l : Ledger) (probes links : List (List ℕ)) (s : ℕ) →
    answered_number (answered_to l probes links s) ≡ refusal_of_answered l (length probes) (length links)
unfolding answered_to
answered-number l probes links s = answered_number-by (refusal_of_answered l (length probes) (length links)) (answered_on l probes links s)
