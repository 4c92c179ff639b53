-- Of each of the monitor's calls for a host: the contract determines the number and every lent word; the number is document 01's refusal of the monitor
-- that the words say; a refusal changes no lent word. These hold of all words and every queue.
-- Assumes nothing.
use Rattle.std.specs.Prelude.{Ok, Err, Some, None}
use mathlib.Core.Path.{◌≡◌, refl, sym, ap, ◌∙◌}
use mathlib.Core.Bool.{Bool, true, false}
use mathlib.Core.List.{List}
use Prim.Native.Nat.{ℕ}
use seplogic.Ra.Ura.{Ura}
use base.Logic.{SProp}
use prog.Memory.{Memory}
use prog.Routine.{Routine}
use types.Logic.{Logic}
use contract.Monad.{Fun}
use contract.Lifetimes.{Lfts}
use borrow.Fn.World as World
use borrow.Fn.Kinds as Kinds'
use denote.Triple.Clauses as Clauses
use Rattle.determined.specs.Determines.{Determines}
use Rattle.determined.proofs.Facts.{both_say}
use lib.ListN.{length, get_or}
use lib.Dec.{eqb}
use Rattle.limits.specs.Limits.{capacity}
use Rattle.limits.specs.Refusals.{wrong_room}
use Rattle.probe_queue.specs.declared.QueuedProbe.{QueuedProbe}
use Rattle.probe_queue.specs.Queue.{choose, nil}
use Rattle.monitor.specs.Refusals.{misplaced, refusal_of, refusal_of_sent}
use Rattle.monitor.specs.Answers.{Outcome, number, deadline_of}
use Rattle.monitor_model.proofs.Outcomes as monitor
use Rattle.host_monitor_words.specs.Words.{monitor_at, words_after}
use Rattle.host_monitor.specs.Calls.{Told, told, Left, left, ended, sent_to, reply_to, advance_to, stopped, idle_to, answered_by, deadline_to, shows, summary_to}
use Rattle.host_monitor.specs.contracts.ambrulicciu_monitor_fresh as fresh
use Rattle.host_monitor.proofs.ambrulicciu_monitor_fresh.Kinds as fresh-kinds
use Rattle.host_monitor.proofs.ambrulicciu_monitor_fresh.Reads as fresh-reads
use Rattle.host_monitor.specs.contracts.ambrulicciu_monitor_sent as sent
use Rattle.host_monitor.specs.contracts.ambrulicciu_monitor_reply as reply
use Rattle.host_monitor.specs.contracts.ambrulicciu_monitor_advance as advance
use Rattle.host_monitor.specs.contracts.ambrulicciu_monitor_idle as idle
use Rattle.host_monitor.proofs.ambrulicciu_monitor_idle.Kinds as idle-kinds
use Rattle.host_monitor.proofs.ambrulicciu_monitor_idle.Reads as idle-reads
use Rattle.host_monitor.specs.contracts.ambrulicciu_monitor_deadline as deadline
use Rattle.host_monitor.specs.contracts.ambrulicciu_monitor_summary as summary
use Rattle.host_monitor.proofs.ambrulicciu_monitor_summary.Kinds as summary-kinds
use Rattle.host_monitor.proofs.ambrulicciu_monitor_summary.Reads as summary_reads

-- ---- one outcome. Of a call that is lent the queue, over its clauses; of the others, over their plain reading

same-told : (x y : Told) → x ≡ y → (x.number ≡ y.number) × (x.words ≡ y.words)
same-told x y e = (ap (λ (z : Told). z.number) e, ap (λ (z : Told). z.words) e)

same_left : (x y : Left) → x ≡ y → (x.number ≡ y.number) × (x.words ≡ y.words) × (x.queue ≡ y.queue)
same_left x y e = (ap (λ (z : Left). z.number) e, ap (λ (z : Left). z.words) e, ap (λ (z : Left). z.queue) e)

pub fresh-unique :
    (κs : Lfts 1) (a : World.ArgsD fresh.signature κs) (r₁ r₂ : World.ResD fresh.signature κs)
    (s₁ s₂ : Clauses.AtExit (Kinds'.ended_of 1 fresh-kinds.ps fresh-kinds.r) κs)
    → fresh-reads.Post κs a r₁ s₁ → fresh-reads.Post κs a r₂ s₂ → (r₁ ≡ r₂) × (s₁.0.now ≡ s₂.0.now)
fresh-unique κs a r₁ r₂ s₁ s₂ p q = same-told (told r₁ s₁.0.now) (told r₂ s₂.0.now) (p ∙ sym q)

pub sent-unique :
    {M : Type 1} {𝓤 : Ura M} (𝓛 : Logic 𝓤) (mem : Memory → SProp 𝓤) (run : Routine → Fun 𝓤)
    → Determines 𝓤 sent.ended (sent.clauses 𝓛 mem run) (λ κs r₁ r₂ s₁ s₂. (r₁ ≡ r₂) × (s₁.0.now ≡ s₂.0.now) × (s₁.1.0.now ≡ s₂.1.0.now))
sent-unique {𝓤 = 𝓤} 𝓛 mem run κs a g r₁ r₂ s₁ s₂ =
    both_say 𝓤 _ _ _ (λ p q. same_left (left r₁ s₁.0.now s₁.1.0.now) (left r₂ s₂.0.now s₂.1.0.now) (p ∙ sym q))

pub reply-unique :
    {M : Type 1} {𝓤 : Ura M} (𝓛 : Logic 𝓤) (mem : Memory → SProp 𝓤) (run : Routine → Fun 𝓤)
    → Determines 𝓤 reply.ended (reply.clauses 𝓛 mem run) (λ κs r₁ r₂ s₁ s₂. (r₁ ≡ r₂) × (s₁.0.now ≡ s₂.0.now) × (s₁.1.0.now ≡ s₂.1.0.now))
reply-unique {𝓤 = 𝓤} 𝓛 mem run κs a g r₁ r₂ s₁ s₂ =
    both_say 𝓤 _ _ _ (λ p q. same_left (left r₁ s₁.0.now s₁.1.0.now) (left r₂ s₂.0.now s₂.1.0.now) (p ∙ sym q))

pub advance-unique :
    {M : Type 1} {𝓤 : Ura M} (𝓛 : Logic 𝓤) (mem : Memory → SProp 𝓤) (run : Routine → Fun 𝓤)
    → Determines 𝓤 advance.ended (advance.clauses 𝓛 mem run) (λ κs r₁ r₂ s₁ s₂. (r₁ ≡ r₂) × (s₁.0.now ≡ s₂.0.now) × (s₁.1.0.now ≡ s₂.1.0.now))
advance-unique {𝓤 = 𝓤} 𝓛 mem run κs a g r₁ r₂ s₁ s₂ =
    both_say 𝓤 _ _ _ (λ p q. same_left (left r₁ s₁.0.now s₁.1.0.now) (left r₂ s₂.0.now s₂.1.0.now) (p ∙ sym q))

pub idle-unique :
    (κs : Lfts 1) (a : World.ArgsD idle.signature κs) (r₁ r₂ : World.ResD idle.signature κs)
    (s₁ s₂ : Clauses.AtExit (Kinds'.ended_of 1 idle-kinds.ps idle-kinds.r) κs)
    → idle-reads.Post κs a r₁ s₁ → idle-reads.Post κs a r₂ s₂ → (r₁ ≡ r₂) × (s₁.0.now ≡ s₂.0.now)
idle-unique κs a r₁ r₂ s₁ s₂ p q = same-told (told r₁ s₁.0.now) (told r₂ s₂.0.now) (p ∙ sym q)

pub deadline-unique :
    {M : Type 1} {𝓤 : Ura M} (𝓛 : Logic 𝓤) (mem : Memory → SProp 𝓤) (run : Routine → Fun 𝓤)
    → Determines 𝓤 deadline.ended (deadline.clauses 𝓛 mem run) (λ κs r₁ r₂ s₁ s₂. (r₁ ≡ r₂) × (s₁.1.1.0.now ≡ s₂.1.1.0.now))
deadline-unique {𝓤 = 𝓤} 𝓛 mem run κs a g r₁ r₂ s₁ s₂ =
    both_say 𝓤 _ _ _ (λ p q. same-told (told r₁ s₁.1.1.0.now) (told r₂ s₂.1.1.0.now) (p ∙ sym q))

pub summary-unique :
    (κs : Lfts 2) (a : World.ArgsD summary.signature κs) (r₁ r₂ : World.ResD summary.signature κs)
    (s₁ s₂ : Clauses.AtExit (Kinds'.ended_of 2 summary-kinds.ps summary-kinds.r) κs)
    → summary_reads.Post κs a r₁ s₁ → summary_reads.Post κs a r₂ s₂ → (r₁ ≡ r₂) × (s₁.1.0.now ≡ s₂.1.0.now)
summary-unique κs a r₁ r₂ s₁ s₂ p q = same-told (told r₁ s₁.1.0.now) (told r₂ s₂.1.0.now) (p ∙ sym q)

-- ---- the number is the refusal's, 0 where there is none

pub sent-number : (words : List ℕ) (queue : List QueuedProbe) (s t : ℕ) → (sent_to words queue s t).number ≡ refusal_of_sent (monitor_at words) (length queue) t
unfolding sent_to
sent-number words queue s t = monitor.sent-number (monitor_at words) queue s t

pub reply-number : (words : List ℕ) (queue : List QueuedProbe) (s : ℕ) → (reply_to words queue s).number ≡ refusal_of (monitor_at words) (length queue)
unfolding reply_to
reply-number words queue s = monitor.reply-number (monitor_at words) queue s

pub advance-number : (words : List ℕ) (queue : List QueuedProbe) (t : ℕ) → (advance_to words queue t).number ≡ refusal_of (monitor_at words) (length queue)
unfolding advance_to
advance-number words queue t = monitor.advance-number (monitor_at words) queue t

pub idle-number : (words : List ℕ) → (idle_to words).number ≡ refusal_of (monitor_at words) capacity
unfolding idle_to
idle-number words = monitor.idle-number (monitor_at words)

-- ---- a refusal changes nothing

refused-by : (words : List ℕ) (queue : List QueuedProbe) (o : Outcome) (n : ℕ) → (o.answer ≡ Err n) × (o.room ≡ queue) → ended words o ≡ left n words queue
refused-by words queue o n e = λ i. left (number (e.0 i)) (words_after words (e.0 i)) (e.1 i)

pub sent-refused : (words : List ℕ) (queue : List QueuedProbe) (s t : ℕ) → (refusal_of_sent (monitor_at words) (length queue) t ≡ 0 → ⊥) → sent_to words queue s t ≡ left (refusal_of_sent (monitor_at words) (length queue) t) words queue
unfolding sent_to
sent-refused words queue s t h = refused-by words queue _ (refusal_of_sent (monitor_at words) (length queue) t) (monitor.sent-refused (monitor_at words) queue s t h)

pub reply-refused : (words : List ℕ) (queue : List QueuedProbe) (s : ℕ) → (refusal_of (monitor_at words) (length queue) ≡ 0 → ⊥) → reply_to words queue s ≡ left (refusal_of (monitor_at words) (length queue)) words queue
unfolding reply_to
reply-refused words queue s h = refused-by words queue _ (refusal_of (monitor_at words) (length queue)) (monitor.reply-refused (monitor_at words) queue s h)

pub advance-refused : (words : List ℕ) (queue : List QueuedProbe) (t : ℕ) → (refusal_of (monitor_at words) (length queue) ≡ 0 → ⊥) → advance_to words queue t ≡ left (refusal_of (monitor_at words) (length queue)) words queue
unfolding advance_to
advance-refused words queue t h = refused-by words queue _ (refusal_of (monitor_at words) (length queue)) (monitor.advance-refused (monitor_at words) queue t h)

pub idle-refused : (words : List ℕ) → (refusal_of (monitor_at words) capacity ≡ 0 → ⊥) → idle_to words ≡ told (refusal_of (monitor_at words) capacity) words
unfolding idle_to
idle-refused words h = ap (stopped words) (monitor.idle-refused (monitor_at words) h)

pub deadline-refused : (words : List ℕ) (queue : List QueuedProbe) (answer : List ℕ) → misplaced (monitor_at words) (length queue) ≡ true → deadline_to words queue answer ≡ told wrong_room answer
unfolding deadline_to deadline_of
deadline-refused words queue answer h =
    let m = monitor_at words in
    ap (λ (b : Bool). answered_by answer (choose b (Err wrong_room) (choose (eqb m.ring.len 0) (Ok None) (Ok (Some (get_or queue m.ring.head nil).deadline))))) h

pub summary-number : (words shown : List ℕ) → (summary_to words shown).number ≡ choose (misplaced (monitor_at words) capacity) wrong_room 0
unfolding summary_to
summary-number words shown = by (misplaced (monitor_at words) capacity)
  where
    by : (b : Bool) → (choose b (told wrong_room shown) (told 0 (shows (monitor_at words).summary))).number ≡ choose b wrong_room 0
    by true = refl
    by false = refl

pub summary-refused : (words shown : List ℕ) → misplaced (monitor_at words) capacity ≡ true → summary_to words shown ≡ told wrong_room shown
unfolding summary_to
summary-refused words shown h = ap (λ (b : Bool). choose b (told wrong_room shown) (told 0 (shows (monitor_at words).summary))) h
