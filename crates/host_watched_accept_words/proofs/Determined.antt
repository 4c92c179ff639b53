-- Of `accept` with a monitor on the words: the contract determines what is given and every lent word. Assumes nothing.
use mathlib.Core.Path.{◌≡◌, sym, ap, ◌∙◌}
use seplogic.Ra.Ura.{Ura}
use base.Logic.{SProp}
use prog.Memory.{Memory}
use prog.Routine.{Routine}
use types.Logic.{Logic}
use contract.Monad.{Fun}
use Rattle.determined.specs.Determines.{Determines}
use Rattle.determined.proofs.Facts.{both_say}
use Rattle.host_watched_accept_words.specs.Calls.{Left}
use Rattle.host_watched_accept_words.specs.contracts.accept as accept

-- the number and the words given; the exits of the ledger, the monitor, the keys, the slots, the probes, the links and the queue
pub accept-unique :
    {M : Type 1} {𝓤 : Ura M} (𝓛 : Logic 𝓤) (mem : Memory → SProp 𝓤) (run : Routine → Fun 𝓤)
    → Determines 𝓤 accept.ended (accept.clauses 𝓛 mem run) (λ κs r₁ r₂ s₁ s₂. (r₁.number ≡ r₂.number) × (r₁.words ≡ r₂.words) × (s₁.0.now ≡ s₂.0.now) × (s₁.1.0.now ≡ s₂.1.0.now) × (s₁.1.1.0.now ≡ s₂.1.1.0.now) × (s₁.1.1.1.0.now ≡ s₂.1.1.1.0.now) × (s₁.1.1.1.1.0.now ≡ s₂.1.1.1.1.0.now) × (s₁.1.1.1.1.1.0.now ≡ s₂.1.1.1.1.1.0.now) × (s₁.1.1.1.1.1.1.0.now ≡ s₂.1.1.1.1.1.1.0.now))
accept-unique {𝓤 = 𝓤} 𝓛 mem run κs a g r₁ r₂ s₁ s₂ =
    both_say 𝓤 _ _ _ (λ p q. let e = p ∙ sym q in (
      ap (λ (x : Left). x.number) e,
      ap (λ (x : Left). x.answer) e,
      ap (λ (x : Left). x.ledger) e,
      ap (λ (x : Left). x.monitor) e,
      ap (λ (x : Left). x.keys) e,
      ap (λ (x : Left). x.slots) e,
      ap (λ (x : Left). x.probes) e,
      ap (λ (x : Left). x.links) e,
      ap (λ (x : Left). x.queue) e,
    ))
