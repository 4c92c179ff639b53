-- Of `sent` with a monitor for a host: the contract determines the number and every lent word; a refusal changes no lent word.
-- Assumes nothing.
use Rattle.std.specs.Prelude.{Err}
use mathlib.Core.Path.{◌≡◌, sym, ap, ◌∙◌}
use mathlib.Core.List.{List}
use Prim.Native.Nat.{ℕ}
use seplogic.Ra.Ura.{Ura}
use base.Logic.{SProp}
use prog.Memory.{Memory}
use prog.Routine.{Routine}
use types.Logic.{Logic}
use contract.Monad.{Fun}
use Rattle.determined.specs.Determines.{Determines}
use Rattle.determined.proofs.Facts.{both_say}
use Rattle.probe_queue.specs.declared.QueuedProbe.{QueuedProbe}
use Rattle.ledger_watched.specs.Watched.{sent_to}
use Rattle.ledger_watched.proofs.Determined as watched
use Rattle.host_calls.specs.Calls.{sent_probe_of}
use Rattle.host_ledger.specs.Words.{ledger_at}
use Rattle.host_monitor_words.specs.Words.{monitor_at}
use Rattle.host_watched_sent.specs.Calls.{Left, left, ended, watched_sent_to}
use Rattle.host_watched_sent.specs.contracts.ambrulicciu_watched_sent as sent

-- the exits of the ledger, the monitor, the probes, the links and the queue
pub watched-sent-unique :
    {M : Type 1} {𝓤 : Ura M} (𝓛 : Logic 𝓤) (mem : Memory → SProp 𝓤) (run : Routine → Fun 𝓤)
    → Determines 𝓤 sent.ended (sent.clauses 𝓛 mem run) (λ κs r₁ r₂ s₁ s₂. (r₁ ≡ r₂) × (s₁.0.now ≡ s₂.0.now) × (s₁.1.0.now ≡ s₂.1.0.now) × (s₁.1.1.0.now ≡ s₂.1.1.0.now) × (s₁.1.1.1.0.now ≡ s₂.1.1.1.0.now) × (s₁.1.1.1.1.0.now ≡ s₂.1.1.1.1.0.now))
watched-sent-unique {𝓤 = 𝓤} 𝓛 mem run κs a g r₁ r₂ s₁ s₂ =
    both_say 𝓤 _ _ _ (λ p q. let e = p ∙ sym q in
    (ap (λ (x : Left). x.number) e, ap (λ (x : Left). x.ledger) e, ap (λ (x : Left). x.monitor) e, ap (λ (x : Left). x.probes) e, ap (λ (x : Left). x.links) e, ap (λ (x : Left). x.queue) e))

pub watched-sent-refused :
    (ledger monitor : List ℕ) (probes links : List (List ℕ)) (queue : List QueuedProbe) (sequence ordinal train time tag n : ℕ)
    → (sent_to (ledger_at ledger) (monitor_at monitor) probes links queue (sent_probe_of sequence ordinal train time tag)).answer ≡ Err n
    → watched_sent_to ledger monitor probes links queue sequence ordinal train time tag ≡ left n ledger monitor probes links queue
unfolding watched_sent_to
watched-sent-refused ledger monitor probes links queue sequence ordinal train time tag n h =
    ap (ended ledger monitor) (watched.sent-refused (ledger_at ledger) (monitor_at monitor) probes links queue (sent_probe_of sequence ordinal train time tag) n h)
