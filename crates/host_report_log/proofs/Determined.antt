-- The contract determines the number, the text's buffer, the word of its length, the queue and every room, and a refusal changes none.
-- Assumes nothing.
use mathlib.Core.Path.{◌≡◌, refl, sym, ap, ◌∙◌}
use mathlib.Core.List.{List}
use Prim.Native.Nat.{ℕ}
use seplogic.Ra.Ura.{Ura}
use base.Logic.{SProp}
use prog.Memory.{Memory}
use prog.Routine.{Routine}
use types.Logic.{Logic}
use contract.Monad.{Fun}
use Rattle.determined.specs.Determines.{Determines}
use Rattle.determined.proofs.Facts.{both_say}
use Rattle.probe_queue.specs.declared.QueuedProbe.{QueuedProbe}
use Rattle.ledger_steps.specs.Rooms.{Rooms}
use Rattle.log_whole.specs.declared.Settings.{Settings}
use Rattle.log_whole.specs.Logs.{log_of}
use Rattle.log_play.specs.Tally.{Tallied}
use Rattle.std.specs.Prelude.{Result, Ok, Err}
use Rattle.limits.specs.declared.Refusal.{Refusal}
use Rattle.link_report.specs.LogReport.{end_of, report_by, fits, report_of_log}
use Rattle.log_settings.specs.Checks.{checked_by}
use Rattle.host_report_log.specs.LogTold.{Left, left_by, report_log_to}
use Rattle.host_report_log.specs.contracts.ambrulicciu_report_log as report-log

-- the number, the five rooms, the queue, the buffer and the word; the call is lent the queue, so it is stated over its clauses
pub report-log-unique :
    {M : Type 1} {𝓤 : Ura M} (𝓛 : Logic 𝓤) (mem : Memory → SProp 𝓤) (run : Routine → Fun 𝓤)
    → Determines 𝓤 report-log.ended (report-log.clauses 𝓛 mem run) (λ κs r₁ r₂ s₁ s₂. (r₁ ≡ r₂) × (s₁.1.1.0.now ≡ s₂.1.1.0.now) × (s₁.1.1.1.0.now ≡ s₂.1.1.1.0.now) × (s₁.1.1.1.1.0.now ≡ s₂.1.1.1.1.0.now) × (s₁.1.1.1.1.1.0.now ≡ s₂.1.1.1.1.1.0.now) × (s₁.1.1.1.1.1.1.0.now ≡ s₂.1.1.1.1.1.1.0.now) × (s₁.1.1.1.1.1.1.1.0.now ≡ s₂.1.1.1.1.1.1.1.0.now) × (s₁.1.1.1.1.1.1.1.1.0.now ≡ s₂.1.1.1.1.1.1.1.1.0.now) × (s₁.1.1.1.1.1.1.1.1.1.0.now ≡ s₂.1.1.1.1.1.1.1.1.1.0.now))
report-log-unique {𝓤 = 𝓤} 𝓛 mem run κs a g r₁ r₂ s₁ s₂ =
    both_say 𝓤 _ _ _ (λ p q. let e = p ∙ sym q in (
      ap (λ (x : Left). x.told.number) e,
      ap (λ (x : Left). x.rooms.keys) e,
      ap (λ (x : Left). x.rooms.slots) e,
      ap (λ (x : Left). x.rooms.probes) e,
      ap (λ (x : Left). x.rooms.offsets) e,
      ap (λ (x : Left). x.rooms.links) e,
      ap (λ (x : Left). x.queue) e,
      ap (λ (x : Left). x.told.text) e,
      ap (λ (x : Left). x.told.length) e,
    ))

-- what is left as it was
pub record Unchanged (queue : List QueuedProbe) (rooms : Rooms) (text word : List ℕ) (x : Left) : Type 0 where
  pub same_queue : x.queue ≡ queue
  pub same-rooms : x.rooms ≡ rooms
  pub same_text : x.told.text ≡ text
  pub same_length : x.told.length ≡ word

-- a refusal, 5 or 9, 7, 8 of the log itself, changes nothing
pub refused-unchanged : (log secret : List ℕ) (queue : List QueuedProbe) (rooms : Rooms) (text word : List ℕ) → ((report_log_to log secret queue rooms text word).told.number ≡ 0 → ⊥)
    → Unchanged queue rooms text word (report_log_to log secret queue rooms text word)
unfolding report_log_to report_of_log
refused-unchanged log secret queue rooms text word = go (checked_by (fits queue rooms text) (log_of log)) (end_of log secret queue rooms)
  where
    go : (c : Result Settings Refusal) (end : Settings → Tallied) → ((left_by (report_by c end queue rooms text) word).told.number ≡ 0 → ⊥) → Unchanged queue rooms text word (left_by (report_by c end queue rooms text) word)
    go (Err r) end h = record { same_queue = refl; same-rooms = refl; same_text = refl; same_length = refl }
    go (Ok s) end h = absurd (h refl)
