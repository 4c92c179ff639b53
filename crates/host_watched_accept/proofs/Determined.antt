-- Of `accept` with a monitor for a host: the contract determines the number and every lent word; a refusal changes no lent word.
-- Assumes nothing.
use Rattle.std.specs.Prelude.{Err}
use mathlib.Core.Path.{◌≡◌, sym, ap, ◌∙◌}
use mathlib.Core.List.{List}
use Prim.Native.Nat.{ℕ}
use seplogic.Ra.Ura.{Ura}
use base.Logic.{SProp}
use prog.Memory.{Memory}
use prog.Routine.{Routine}
use types.Logic.{Logic}
use contract.Monad.{Fun}
use Rattle.determined.specs.Determines.{Determines}
use Rattle.determined.proofs.Facts.{both_say}
use Rattle.probe_queue.specs.declared.QueuedProbe.{QueuedProbe}
use Rattle.ledger_watched.specs.Watched.{accept_to}
use Rattle.ledger_watched.proofs.Determined as watched
use Rattle.host_calls.specs.Calls.{reply_of}
use Rattle.host_ledger.specs.Words.{ledger_at}
use Rattle.host_monitor_words.specs.Words.{monitor_at}
use Rattle.host_watched_accept_words.specs.Calls.{Left, left, ended}
use Rattle.host_watched_accept.specs.Calls.{watched_accept_to}
use Rattle.host_watched_accept.specs.contracts.ambrulicciu_watched_accept as accept

-- the exits of the ledger, the monitor, the keys, the slots, the probes, the links, the queue and, behind six numbers, the answer
pub watched-accept-unique :
    {M : Type 1} {𝓤 : Ura M} (𝓛 : Logic 𝓤) (mem : Memory → SProp 𝓤) (run : Routine → Fun 𝓤)
    → Determines 𝓤 accept.ended (accept.clauses 𝓛 mem run) (λ κs r₁ r₂ s₁ s₂. (r₁ ≡ r₂) × (s₁.0.now ≡ s₂.0.now) × (s₁.1.0.now ≡ s₂.1.0.now) × (s₁.1.1.0.now ≡ s₂.1.1.0.now) × (s₁.1.1.1.0.now ≡ s₂.1.1.1.0.now) × (s₁.1.1.1.1.0.now ≡ s₂.1.1.1.1.0.now) × (s₁.1.1.1.1.1.0.now ≡ s₂.1.1.1.1.1.0.now) × (s₁.1.1.1.1.1.1.0.now ≡ s₂.1.1.1.1.1.1.0.now)
    × (s₁.1.1.1.1.1.1.1.1.1.1.1.1.1.0.now ≡ s₂.1.1.1.1.1.1.1.1.1.1.1.1.1.0.now))
watched-accept-unique {𝓤 = 𝓤} 𝓛 mem run κs a g r₁ r₂ s₁ s₂ =
    both_say 𝓤 _ _ _ (λ p q. let e = p ∙ sym q in (
      ap (λ (x : Left). x.number) e,
      ap (λ (x : Left). x.ledger) e,
      ap (λ (x : Left). x.monitor) e,
      ap (λ (x : Left). x.keys) e,
      ap (λ (x : Left). x.slots) e,
      ap (λ (x : Left). x.probes) e,
      ap (λ (x : Left). x.links) e,
      ap (λ (x : Left). x.queue) e,
      ap (λ (x : Left). x.answer) e,
    ))

pub watched-accept-refused :
    (ledger monitor : List ℕ) (keys slots probes links : List (List ℕ)) (queue : List QueuedProbe) (sender reflector t3 pending time tag : ℕ) (answer : List ℕ) (n : ℕ)
    → (accept_to (ledger_at ledger) (monitor_at monitor) keys slots probes links queue (reply_of sender reflector t3 pending time tag)).answer ≡ Err n
    → watched_accept_to ledger monitor keys slots probes links queue sender reflector t3 pending time tag answer ≡ left n ledger monitor keys slots probes links queue answer
unfolding watched_accept_to
watched-accept-refused ledger monitor keys slots probes links queue sender reflector t3 pending time tag answer n h =
    ap (ended ledger monitor answer) (watched.accept-refused (ledger_at ledger) (monitor_at monitor) keys slots probes links queue (reply_of sender reflector t3 pending time tag) n h)
