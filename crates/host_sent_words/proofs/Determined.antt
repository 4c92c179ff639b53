-- The contract of a served call determines every word of the ledger and both rooms: two exits that meet it are equal. Assumes nothing.
use mathlib.Core.Path.{◌≡◌, sym, ap, ◌∙◌}
use contract.Lifetimes.{Lfts}
use borrow.Fn.World as World
use borrow.Fn.Kinds as Kinds'
use denote.Triple.Clauses as Clauses
use Rattle.host_sent_words.specs.Sent.{SentLeft}
use Rattle.host_sent_words.specs.contracts.served as served
use Rattle.host_sent_words.proofs.served.Kinds as served-kinds
use Rattle.host_sent_words.proofs.served.Reads as served-reads

-- the exits of the ledger, the probes and the links
pub served-unique :
    (κs : Lfts 3) (a : World.ArgsD served.signature κs) (r₁ r₂ : World.ResD served.signature κs)
    (s₁ s₂ : Clauses.AtExit (Kinds'.ended_of 3 served-kinds.ps served-kinds.r) κs)
    → served-reads.Post κs a r₁ s₁ → served-reads.Post κs a r₂ s₂
    → (s₁.0.now ≡ s₂.0.now) × (s₁.1.0.now ≡ s₂.1.0.now) × (s₁.1.1.0.now ≡ s₂.1.1.0.now)
served-unique κs a r₁ r₂ s₁ s₂ p q =
    let e = p ∙ sym q in
    (ap (λ (x : SentLeft). x.ledger) e, ap (λ (x : SentLeft). x.probes) e, ap (λ (x : SentLeft). x.links) e)
