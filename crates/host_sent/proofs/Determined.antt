-- The contract determines the number, every word of the ledger and both rooms: two exits that meet it are equal. The number is the table's, and a
-- refusal changes nothing. Assumes nothing.
use mathlib.Core.Path.{◌≡◌, refl, sym, ap, ◌∙◌}
use mathlib.Core.List.{List}
use Prim.Native.Nat.{ℕ, zero, suc}
use contract.Lifetimes.{Lfts}
use borrow.Fn.World as World
use borrow.Fn.Kinds as Kinds'
use denote.Triple.Clauses as Clauses
use lib.ListN.{length}
use Rattle.call_types.specs.declared.SentProbe.{SentProbe}
use Rattle.ledger_steps.specs.Refusals.{refusal_of_sent}
use Rattle.ledger_steps.specs.Sent.{SentOutcome, sent_on}
use Rattle.ledger_steps.specs.Calls.{sent_by, sent_to}
use Rattle.host_ledger.specs.Words.{ledger_at}
use Rattle.host_sent_words.specs.Sent.{SentLeft, sent_left, sent_from}
use Rattle.host_sent.specs.Sent.{sent_of}
use Rattle.host_sent.specs.contracts.ambrulicciu_sent as sent
use Rattle.host_sent.proofs.ambrulicciu_sent.Kinds as sent-kinds
use Rattle.host_sent.proofs.ambrulicciu_sent.Reads as sent-reads

pub sent-unique :
    (κs : Lfts 3) (a : World.ArgsD sent.signature κs) (r₁ r₂ : World.ResD sent.signature κs)
    (s₁ s₂ : Clauses.AtExit (Kinds'.ended_of 3 sent-kinds.ps sent-kinds.r) κs)
    → sent-reads.Post κs a r₁ s₁ → sent-reads.Post κs a r₂ s₂
    → (r₁ ≡ r₂) × (s₁.0.now ≡ s₂.0.now) × (s₁.1.0.now ≡ s₂.1.0.now) × (s₁.1.1.0.now ≡ s₂.1.1.0.now)
sent-unique κs a r₁ r₂ s₁ s₂ p q =
    let e = p ∙ sym q in (
      ap (λ (x : SentLeft). x.number) e,
      ap (λ (x : SentLeft). x.ledger) e,
      ap (λ (x : SentLeft). x.probes) e,
      ap (λ (x : SentLeft). x.links) e,
    )

-- ---- the number, and what a refusal leaves

module _ (w : List ℕ) (probes links : List (List ℕ)) where
  number_by : (k : ℕ) (o : SentOutcome) → (sent_from w (sent_by k o probes links)).number ≡ k
  number_by zero o = refl
  number_by (suc k) o = refl

  pub sent-number : (s : SentProbe) → (sent_of w probes links s).number ≡ refusal_of_sent 0 (ledger_at w) (length probes) (length links)
  unfolding sent_of sent_to
  sent-number s = number_by (refusal_of_sent 0 (ledger_at w) (length probes) (length links)) (sent_on (ledger_at w) probes links s)

  refused-by : (k : ℕ) (o : SentOutcome) (n : ℕ) → k ≡ suc n → sent_from w (sent_by k o probes links) ≡ sent_left (suc n) w probes links
  refused-by k o n e = ap (λ (m : ℕ). sent_from w (sent_by m o probes links)) e

  -- a number that is not 0 is a refusal: nothing lent has changed
  pub sent-refused : (s : SentProbe) (n : ℕ) → (sent_of w probes links s).number ≡ suc n → sent_of w probes links s ≡ sent_left (suc n) w probes links
  unfolding sent_of sent_to
  sent-refused s n e =
      let k = refusal_of_sent 0 (ledger_at w) (length probes) (length links) in
      let o = sent_on (ledger_at w) probes links s in
      refused-by k o n (sym (number_by k o) ∙ e)
