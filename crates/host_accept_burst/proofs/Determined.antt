-- The contract determines the number, every word of the ledger, the four rooms and all answers: two exits that meet it are equal. Assumes nothing.
use mathlib.Core.Path.{◌≡◌, sym, ap, ◌∙◌}
use seplogic.Ra.Ura.{Ura}
use base.Logic.{SProp}
use prog.Memory.{Memory}
use prog.Routine.{Routine}
use types.Logic.{Logic}
use contract.Monad.{Fun}
use Rattle.determined.specs.Determines.{Determines}
use Rattle.determined.proofs.Facts.{both_say}
use Rattle.host_burst.specs.Burst.{Listed}
use Rattle.host_accept_burst.specs.Burst.{Lent}
use Rattle.host_accept_burst.specs.contracts.ambrulicciu_accept_burst as burst

-- the number, the exits of the ledger, the keys, the slots, the probes, the links and, behind the entries, the answers
pub accept-burst-unique :
    {M : Type 1} {𝓤 : Ura M} (𝓛 : Logic 𝓤) (mem : Memory → SProp 𝓤) (run : Routine → Fun 𝓤)
    → Determines 𝓤 burst.ended (burst.clauses 𝓛 mem run) (λ κs r₁ r₂ s₁ s₂. (r₁ ≡ r₂) × (s₁.0.now ≡ s₂.0.now) × (s₁.1.0.now ≡ s₂.1.0.now) × (s₁.1.1.0.now ≡ s₂.1.1.0.now) × (s₁.1.1.1.0.now ≡ s₂.1.1.1.0.now) × (s₁.1.1.1.1.0.now ≡ s₂.1.1.1.1.0.now) × (s₁.1.1.1.1.1.1.0.now ≡ s₂.1.1.1.1.1.1.0.now))
accept-burst-unique {𝓤 = 𝓤} 𝓛 mem run κs a g r₁ r₂ s₁ s₂ =
    both_say 𝓤 _ _ _ (λ p q. let e = p ∙ sym q in (
      ap (λ (y : Listed Lent). y.number) e,
      ap (λ (y : Listed Lent). y.burst.state.ledger) e,
      ap (λ (y : Listed Lent). y.burst.state.keys) e,
      ap (λ (y : Listed Lent). y.burst.state.slots) e,
      ap (λ (y : Listed Lent). y.burst.state.probes) e,
      ap (λ (y : Listed Lent). y.burst.state.links) e,
      ap (λ (y : Listed Lent). y.burst.rows) e,
    ))
