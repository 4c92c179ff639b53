-- The contract of a served reply determines every word of the ledger, the four rooms and the answer: two exits that meet it are equal.
-- Assumes nothing.
use mathlib.Core.Path.{◌≡◌, sym, ap, ◌∙◌}
use contract.Lifetimes.{Lfts}
use borrow.Fn.World as World
use borrow.Fn.Kinds as Kinds'
use denote.Triple.Clauses as Clauses
use Rattle.host_accept_words.specs.Accept.{AcceptLeft}
use Rattle.host_accept_words.specs.contracts.served as served
use Rattle.host_accept_words.proofs.served.Kinds as served-kinds
use Rattle.host_accept_words.proofs.served.Reads as served-reads

-- the exits of the ledger, the keys, the slots, the probes, the links and, behind the reply, the answer
pub served-unique :
    (κs : Lfts 6) (a : World.ArgsD served.signature κs) (r₁ r₂ : World.ResD served.signature κs)
    (s₁ s₂ : Clauses.AtExit (Kinds'.ended_of 6 served-kinds.ps served-kinds.r) κs)
    → served-reads.Post κs a r₁ s₁ → served-reads.Post κs a r₂ s₂
    → (s₁.0.now ≡ s₂.0.now) × (s₁.1.0.now ≡ s₂.1.0.now) × (s₁.1.1.0.now ≡ s₂.1.1.0.now) × (s₁.1.1.1.0.now ≡ s₂.1.1.1.0.now)
    × (s₁.1.1.1.1.0.now ≡ s₂.1.1.1.1.0.now)
    × (s₁.1.1.1.1.1.1.0.now ≡ s₂.1.1.1.1.1.1.0.now)
served-unique κs a r₁ r₂ s₁ s₂ p q =
    let e = p ∙ sym q in (
      ap (λ (x : AcceptLeft). x.ledger) e,
      ap (λ (x : AcceptLeft). x.keys) e,
      ap (λ (x : AcceptLeft). x.slots) e,
      ap (λ (x : AcceptLeft). x.probes) e,
      ap (λ (x : AcceptLeft). x.links) e,
      ap (λ (x : AcceptLeft). x.answer) e,
    )
