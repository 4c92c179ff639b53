-- The contract determines the answer, the buffer, the queue and every room, and a refusal changes none. Assumes nothing.
use mathlib.Core.Path.{◌≡◌, refl, sym, ap, ◌∙◌}
use mathlib.Core.List.{List}
use Prim.Native.Nat.{ℕ}
use seplogic.Ra.Ura.{Ura}
use base.Logic.{SProp}
use prog.Memory.{Memory}
use prog.Routine.{Routine}
use types.Logic.{Logic}
use contract.Monad.{Fun}
use contract.Lifetimes.{Lfts}
use borrow.Fn.World as World
use borrow.Fn.Kinds as Kinds'
use denote.Triple.Clauses as Clauses
use Rattle.limits.proofs.Numbers.{numbered_unique}
use Rattle.limits.specs.Numbers.{numbered}
use Rattle.determined.specs.Determines.{Determines}
use Rattle.determined.proofs.Facts.{both_say}
use Rattle.probe_queue.specs.declared.QueuedProbe.{QueuedProbe}
use Rattle.ledger_steps.specs.Rooms.{Rooms}
use Rattle.log_whole.specs.declared.Settings.{Settings}
use Rattle.log_whole.specs.Logs.{log_of}
use Rattle.log_play.specs.Tally.{Tallied}
use Rattle.report.specs.Report.{Outcome, outcome}
use Rattle.std.specs.Prelude.{Result, Ok, Err}
use Rattle.limits.specs.declared.Refusal.{Refusal}
use Rattle.link_report.specs.LogReport.{end_of, Reported, reported, report_by, fits, report_of_log}
use Rattle.log_settings.specs.Checks.{checked_by}
use Rattle.link_report.specs.contracts.report_log as report-log
use Rattle.link_report.specs.contracts.report_log_alone as alone
use Rattle.link_report.proofs.report_log_alone.Kinds as alone-kinds
use Rattle.link_report.proofs.report_log_alone.Reads as alone-reads

-- an outcome tells the answer
same_answer : (a b : Result ℕ ℕ) (l m : List ℕ) → outcome a l ≡ outcome b m → a ≡ b
unfolding outcome
same_answer (Ok x) (Ok y) l m e = cc (ap (λ (o : Outcome). o.values) e)
same_answer (Ok x) (Err y) l m e = cc (ap (λ (o : Outcome). o.values) e)
same_answer (Err x) (Ok y) l m e = cc (ap (λ (o : Outcome). o.values) e)
same_answer (Err x) (Err y) l m e = ap Err (ap (λ (o : Outcome). o.number) e)

-- and the buffer
buffer_of : (a : Result ℕ ℕ) (l : List ℕ) → (outcome a l).buffer ≡ l
unfolding outcome
buffer_of (Ok n) l = refl
buffer_of (Err n) l = refl

same_buffer : (a b : Result ℕ ℕ) (l m : List ℕ) → outcome a l ≡ outcome b m → l ≡ m
same_buffer a b l m e = sym (buffer_of a l) ∙ ap (λ (o : Outcome). o.buffer) e ∙ buffer_of b m

-- the answer, the five rooms, the queue and the buffer; the function is lent the queue, so it is stated over its clauses
pub report-log-unique :
    {M : Type 1} {𝓤 : Ura M} (𝓛 : Logic 𝓤) (mem : Memory → SProp 𝓤) (run : Routine → Fun 𝓤)
    → Determines 𝓤 report-log.ended (report-log.clauses 𝓛 mem run) (λ κs r₁ r₂ s₁ s₂. (r₁ ≡ r₂) × (s₁.1.1.0.now ≡ s₂.1.1.0.now) × (s₁.1.1.1.0.now ≡ s₂.1.1.1.0.now) × (s₁.1.1.1.1.0.now ≡ s₂.1.1.1.1.0.now) × (s₁.1.1.1.1.1.0.now ≡ s₂.1.1.1.1.1.0.now) × (s₁.1.1.1.1.1.1.0.now ≡ s₂.1.1.1.1.1.1.0.now) × (s₁.1.1.1.1.1.1.1.0.now ≡ s₂.1.1.1.1.1.1.1.0.now) × (s₁.1.1.1.1.1.1.1.1.0.now ≡ s₂.1.1.1.1.1.1.1.1.0.now))
report-log-unique {𝓤 = 𝓤} 𝓛 mem run κs a g r₁ r₂ s₁ s₂ =
    both_say 𝓤 _ _ _ (λ p q. let e = p ∙ sym q in let o = ap (λ (x : Reported). x.outcome) e in (
      numbered_unique r₁ r₂ (same_answer (numbered r₁) (numbered r₂) s₁.1.1.1.1.1.1.1.1.0.now s₂.1.1.1.1.1.1.1.1.0.now o),
      ap (λ (x : Reported). x.rooms.keys) e,
      ap (λ (x : Reported). x.rooms.slots) e,
      ap (λ (x : Reported). x.rooms.probes) e,
      ap (λ (x : Reported). x.rooms.offsets) e,
      ap (λ (x : Reported). x.rooms.links) e,
      ap (λ (x : Reported). x.queue) e,
      same_buffer (numbered r₁) (numbered r₂) s₁.1.1.1.1.1.1.1.1.0.now s₂.1.1.1.1.1.1.1.1.0.now o,
    ))

-- the same with a queue of its own: the answer, the five rooms and the buffer
pub report-log-alone-unique :
    (κs : Lfts 8) (a : World.ArgsD alone.signature κs) (r₁ r₂ : World.ResD alone.signature κs)
    (s₁ s₂ : Clauses.AtExit (Kinds'.ended_of 8 alone-kinds.ps alone-kinds.r) κs)
    → alone-reads.Post κs a r₁ s₁ → alone-reads.Post κs a r₂ s₂
    → (r₁ ≡ r₂) × (s₁.1.1.0.now ≡ s₂.1.1.0.now) × (s₁.1.1.1.0.now ≡ s₂.1.1.1.0.now) × (s₁.1.1.1.1.0.now ≡ s₂.1.1.1.1.0.now) × (s₁.1.1.1.1.1.0.now ≡ s₂.1.1.1.1.1.0.now) × (s₁.1.1.1.1.1.1.0.now ≡ s₂.1.1.1.1.1.1.0.now) × (s₁.1.1.1.1.1.1.1.0.now ≡ s₂.1.1.1.1.1.1.1.0.now)
report-log-alone-unique κs a r₁ r₂ s₁ s₂ p q =
    let o = p.0 ∙ sym q.0 in let e = p.1 ∙ sym q.1 in (
      numbered_unique r₁ r₂ (same_answer (numbered r₁) (numbered r₂) s₁.1.1.1.1.1.1.1.0.now s₂.1.1.1.1.1.1.1.0.now o),
      ap (λ (x : Rooms). x.keys) e,
      ap (λ (x : Rooms). x.slots) e,
      ap (λ (x : Rooms). x.probes) e,
      ap (λ (x : Rooms). x.offsets) e,
      ap (λ (x : Rooms). x.links) e,
      same_buffer (numbered r₁) (numbered r₂) s₁.1.1.1.1.1.1.1.0.now s₂.1.1.1.1.1.1.1.0.now o,
    )

-- A refusal changes no byte of the buffer, no probe of the queue and no word of a room.
pub refused-unchanged : (log secret : List ℕ) (queue queue' : List QueuedProbe) (rooms rooms' : Rooms) (buffer buffer' : List ℕ) (n : ℕ)
    → reported (outcome (Err n) buffer') queue' rooms' ≡ report_of_log log secret queue rooms buffer → (buffer' ≡ buffer) × (queue' ≡ queue) × (rooms' ≡ rooms)
unfolding outcome report_of_log
refused-unchanged log secret queue queue' rooms rooms' buffer buffer' n e = go (checked_by (fits queue rooms buffer) (log_of log)) (end_of log secret queue rooms) e
  where
    go : (c : Result Settings Refusal) (end : Settings → Tallied) → reported (outcome (Err n) buffer') queue' rooms' ≡ report_by c end queue rooms buffer → (buffer' ≡ buffer) × (queue' ≡ queue) × (rooms' ≡ rooms)
    go (Err r) end e = (ap (λ (x : Reported). x.outcome.buffer) e, ap (λ (x : Reported). x.queue) e, ap (λ (x : Reported). x.rooms) e)
    go (Ok s) end e = (cc (ap (λ (x : Reported). x.outcome.values) e), cc (ap (λ (x : Reported). x.outcome.values) e), cc (ap (λ (x : Reported). x.outcome.values) e))
