-- The contract determines the tally, what the ledger's words say and every other lent word: two exits that meet it agree. Assumes nothing.
use mathlib.Core.Path.{◌≡◌, sym, ap, ◌∙◌}
use seplogic.Ra.Ura.{Ura}
use base.Logic.{SProp}
use prog.Memory.{Memory}
use prog.Routine.{Routine}
use types.Logic.{Logic}
use contract.Monad.{Fun}
use Rattle.determined.specs.Determines.{Determines}
use Rattle.determined.proofs.Facts.{both_say}
use Rattle.host_ledger.specs.Words.{ledger_at}
use Rattle.log_play.specs.Tally.{Tallied}
use Rattle.log_play.specs.contracts.play_records as play-records

-- the tally, the ledger that the words say, the five rooms (keys, slots, probes, offsets, links) and the queue; the function is lent the queue, so it is
-- stated over its clauses
pub play-records-unique :
    {M : Type 1} {𝓤 : Ura M} (𝓛 : Logic 𝓤) (mem : Memory → SProp 𝓤) (run : Routine → Fun 𝓤)
    → Determines 𝓤 play-records.ended (play-records.clauses 𝓛 mem run) (λ κs r₁ r₂ s₁ s₂. (r₁ ≡ r₂) × (ledger_at s₁.1.1.1.0.now ≡ ledger_at s₂.1.1.1.0.now) × (s₁.1.1.1.1.0.now ≡ s₂.1.1.1.1.0.now) × (s₁.1.1.1.1.1.0.now ≡ s₂.1.1.1.1.1.0.now) × (s₁.1.1.1.1.1.1.0.now ≡ s₂.1.1.1.1.1.1.0.now) × (s₁.1.1.1.1.1.1.1.0.now ≡ s₂.1.1.1.1.1.1.1.0.now) × (s₁.1.1.1.1.1.1.1.1.0.now ≡ s₂.1.1.1.1.1.1.1.1.0.now) × (s₁.1.1.1.1.1.1.1.1.1.0.now ≡ s₂.1.1.1.1.1.1.1.1.1.0.now))
play-records-unique {𝓤 = 𝓤} 𝓛 mem run κs a g r₁ r₂ s₁ s₂ =
    both_say 𝓤 _ _ _ (λ p q. let e = p ∙ sym q in (
      λ j. record { watch = (e j).standing.link.watch; turned = (e j).turned },
      ap (λ (x : Tallied). x.standing.link.ledger) e,
      ap (λ (x : Tallied). x.standing.rooms.keys) e,
      ap (λ (x : Tallied). x.standing.rooms.slots) e,
      ap (λ (x : Tallied). x.standing.rooms.probes) e,
      ap (λ (x : Tallied). x.standing.rooms.offsets) e,
      ap (λ (x : Tallied). x.standing.rooms.links) e,
      ap (λ (x : Tallied). x.standing.queue) e,
    ))
