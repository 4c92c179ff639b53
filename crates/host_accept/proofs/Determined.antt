-- The contract determines the number, every word of the ledger, the four rooms and the answer: two exits that meet it are equal. The number is the
-- table's, and a refusal changes nothing. Assumes nothing.
use mathlib.Core.Path.{◌≡◌, refl, sym, ap, ◌∙◌}
use mathlib.Core.List.{List}
use Prim.Native.Nat.{ℕ, zero, suc}
use contract.Lifetimes.{Lfts}
use borrow.Fn.World as World
use borrow.Fn.Kinds as Kinds'
use denote.Triple.Clauses as Clauses
use lib.ListN.{length}
use Rattle.call_types.specs.declared.Reply.{Reply}
use Rattle.ledger_steps.specs.Refusals.{refusal_of_accept}
use Rattle.ledger_steps.specs.Accept.{AcceptOutcome, accept_on}
use Rattle.ledger_steps.specs.Calls.{accept_by, accept_to}
use Rattle.host_ledger.specs.Words.{ledger_at}
use Rattle.host_accept_words.specs.Accept.{AcceptLeft, accept_left, accept_from, accept_of}
use Rattle.host_accept.specs.contracts.ambrulicciu_accept as accept
use Rattle.host_accept.proofs.ambrulicciu_accept.Kinds as accept-kinds
use Rattle.host_accept.proofs.ambrulicciu_accept.Reads as accept_reads

-- the exits of the ledger, the keys, the slots, the probes, the links and, behind six numbers, the answer
pub accept-unique :
    (κs : Lfts 6) (a : World.ArgsD accept.signature κs) (r₁ r₂ : World.ResD accept.signature κs)
    (s₁ s₂ : Clauses.AtExit (Kinds'.ended_of 6 accept-kinds.ps accept-kinds.r) κs)
    → accept_reads.Post κs a r₁ s₁ → accept_reads.Post κs a r₂ s₂
    → (r₁ ≡ r₂) × (s₁.0.now ≡ s₂.0.now) × (s₁.1.0.now ≡ s₂.1.0.now) × (s₁.1.1.0.now ≡ s₂.1.1.0.now) × (s₁.1.1.1.0.now ≡ s₂.1.1.1.0.now)
    × (s₁.1.1.1.1.0.now ≡ s₂.1.1.1.1.0.now)
    × (s₁.1.1.1.1.1.1.1.1.1.1.1.0.now ≡ s₂.1.1.1.1.1.1.1.1.1.1.1.0.now)
accept-unique κs a r₁ r₂ s₁ s₂ p q =
    let e = p ∙ sym q in (
      ap (λ (x : AcceptLeft). x.number) e,
      ap (λ (x : AcceptLeft). x.ledger) e,
      ap (λ (x : AcceptLeft). x.keys) e,
      ap (λ (x : AcceptLeft). x.slots) e,
      ap (λ (x : AcceptLeft). x.probes) e,
      ap (λ (x : AcceptLeft). x.links) e,
      ap (λ (x : AcceptLeft). x.answer) e,
    )

-- ---- the number, and what a refusal leaves

module _ (w : List ℕ) (keys slots probes links : List (List ℕ)) (answer : List ℕ) where
  abbrev refusal : ℕ
  refusal = refusal_of_accept 0 (ledger_at w) (length keys) (length slots) (length probes) (length links)

  number_by : (k : ℕ) (o : AcceptOutcome) → (accept_from w answer (accept_by k o keys slots probes links)).number ≡ k
  number_by zero o = refl
  number_by (suc k) o = refl

  pub accept-number : (reply : Reply) → (accept_of w keys slots probes links answer reply).number ≡ refusal
  unfolding accept_of accept_to
  accept-number reply = number_by refusal (accept_on (ledger_at w) keys slots probes links reply)

  -- a number that is not 0 is a refusal: nothing lent has changed, the answer too
  pub accept-refused :
      (reply : Reply) (n : ℕ) → (accept_of w keys slots probes links answer reply).number ≡ suc n →
      accept_of w keys slots probes links answer reply ≡ accept_left (suc n) w keys slots probes links answer
  unfolding accept_of accept_to
  accept-refused reply n e =
      let o = accept_on (ledger_at w) keys slots probes links reply in
      ap (λ (k : ℕ). accept_from w answer (accept_by k o keys slots probes links)) (sym (number_by refusal o) ∙ e)
