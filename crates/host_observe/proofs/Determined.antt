-- The contract determines the number, every word of the ledger and the three rooms: two exits that meet it are equal. The number is the
-- table's, and a refusal changes nothing. Assumes nothing.
use Rattle.std.specs.Prelude.{Option}
use Rattle.call_types.specs.declared.CounterPoint.{CounterPoint}
use mathlib.Core.Path.{◌≡◌, refl, sym, ap, ◌∙◌}
use mathlib.Core.List.{List}
use Prim.Native.Nat.{ℕ, zero, suc}
use lib.ListN.{length}
use contract.Lifetimes.{Lfts}
use borrow.Fn.World as World
use borrow.Fn.Kinds as Kinds'
use denote.Triple.Clauses as Clauses
use Rattle.ledger_steps.specs.Refusals.{refusal_of_observe}
use Rattle.ledger_steps.specs.Observe.{ObserveOutcome, observe_on}
use Rattle.ledger_steps.specs.Calls.{observe_by, observe_to}
use Rattle.host_observation.specs.Observation.{observation_at}
use Rattle.host_ledger.specs.Words.{ledger_at}
use Rattle.host_observe_words.specs.Observe.{Left, left, left_by, observe_leaves}
use Rattle.host_observe.specs.contracts.ambrulicciu_observe as observe
use Rattle.host_observe.proofs.ambrulicciu_observe.Kinds as observe-kinds
use Rattle.host_observe.proofs.ambrulicciu_observe.Reads as observe-reads

pub observe-unique :
    (κs : Lfts 6) (a : World.ArgsD observe.signature κs) (r₁ r₂ : World.ResD observe.signature κs)
    (s₁ s₂ : Clauses.AtExit (Kinds'.ended_of 6 observe-kinds.ps observe-kinds.r) κs)
    → observe-reads.Post κs a r₁ s₁ → observe-reads.Post κs a r₂ s₂
    → (r₁ ≡ r₂) × (s₁.0.now ≡ s₂.0.now) × (s₁.1.1.0.now ≡ s₂.1.1.0.now) × (s₁.1.1.1.0.now ≡ s₂.1.1.1.0.now) × (s₁.1.1.1.1.0.now ≡ s₂.1.1.1.1.0.now)
observe-unique κs a r₁ r₂ s₁ s₂ p q =
    let e = p ∙ sym q in
    (ap (λ (x : Left). x.number) e, ap (λ (x : Left). x.ledger) e, ap (λ (x : Left). x.slots) e, ap (λ (x : Left). x.offsets) e, ap (λ (x : Left). x.links) e)

-- ---- the number, and what a refusal leaves

module _ (w : List ℕ) (keys slots : List (List ℕ)) (offsets : List ℕ) (links : List (List ℕ)) (told : List ℕ) where
  abbrev counters : Option CounterPoint
  counters = (observation_at told).counters

  number_by : (k : ℕ) (o : ObserveOutcome) → (left_by (observe_by k o slots offsets links) counters w).number ≡ k
  number_by zero o = refl
  number_by (suc k) o = refl

  pub observe-number :
      (observe_leaves w keys slots offsets links told).number
      ≡ refusal_of_observe (ledger_at w) keys (length slots) (length offsets) (length links) (observation_at told)
  unfolding observe_leaves observe_to
  observe-number =
      number_by (refusal_of_observe (ledger_at w) keys (length slots) (length offsets) (length links) (observation_at told))
      (observe_on (ledger_at w) keys slots offsets links (observation_at told))

  -- a number that is not 0 is a refusal: nothing lent has changed
  pub observe-refused :
      (n : ℕ) → (observe_leaves w keys slots offsets links told).number ≡ suc n
      → observe_leaves w keys slots offsets links told ≡ left (suc n) w slots offsets links
  unfolding observe_leaves observe_to
  observe-refused n e =
      let k = refusal_of_observe (ledger_at w) keys (length slots) (length offsets) (length links) (observation_at told) in
      let o = observe_on (ledger_at w) keys slots offsets links (observation_at told) in
      ap (λ (m : ℕ). left_by (observe_by m o slots offsets links) counters w) (sym (number_by k o) ∙ e)
