-- Of each call of the monitor: its outcome is unique, its number is the refusal's, and a refusal hands back its number only and changes nothing.
-- These hold of every monitor and every room, reached from fresh or not.
-- Assumes nothing.
use Rattle.std.specs.Prelude.{Result, Ok, Err}
use mathlib.Core.Path.{◌≡◌, refl, sym, ap, ◌∙◌}
use mathlib.Core.Bool.{Bool, true, false, ◌&&◌}
use mathlib.Core.List.{List}
use Prim.Native.Nat.{ℕ}
use seplogic.Ra.Ura.{Ura}
use base.Logic.{SProp}
use prog.Memory.{Memory}
use prog.Routine.{Routine}
use types.Logic.{Logic}
use contract.Monad.{Fun}
use contract.Lifetimes.{Lfts}
use borrow.Fn.World as World
use borrow.Fn.Kinds as Kinds'
use denote.Triple.Clauses as Clauses
use Rattle.determined.specs.Determines.{Determines}
use Rattle.determined.proofs.Facts.{both_say}
use lib.ListN.{length}
use lib.Dec.{eqb}
use borrow.Author.Tests.{eqb-true, ne_eqb}
use Rattle.limits.specs.declared.Refusal.{Refusal}
use Rattle.limits.specs.Limits.{capacity}
use Rattle.limits.specs.Numbers.{numbered}
use Rattle.limits.proofs.Numbers.{numbered_unique}
use Rattle.probe_queue.specs.declared.QueuedProbe.{QueuedProbe}
use Rattle.probe_queue.specs.Queue.{choose}
use Rattle.monitor.specs.declared.Monitor.{Monitor}
use Rattle.monitor.specs.Refusals.{refusal_of, refusal_of_sent, served}
use Rattle.monitor.specs.Operations.{MonitorStand, sent_on, reply_on, advance_on, idle_on, unchanged, sent_if, reply_if, advance_if}
use Rattle.monitor.specs.Answers.{Outcome, Ends, outcome, number, answered, sent_to, reply_to, advance_to, idle_to}
use Rattle.monitor.specs.contracts.Monitor.sent as sent
use Rattle.monitor.specs.contracts.Monitor.reply as reply
use Rattle.monitor.specs.contracts.Monitor.advance as advance
use Rattle.monitor.specs.contracts.Monitor.idle as idle
use Rattle.monitor.proofs.Monitor.idle.Kinds as idle-kinds
use Rattle.monitor.proofs.Monitor.idle.Reads as idle-reads
use Rattle.monitor.specs.contracts.Monitor.deadline as deadline

-- ---- one outcome. Of a call that is lent the queue, over its clauses; of the others, over their plain reading

-- what a contract says of an exit, said of two, makes them equal
same_ends : (o : Outcome) (r₁ r₂ : Result Monitor Refusal) (room₁ room₂ : List QueuedProbe) → Ends o (numbered r₁) room₁ → Ends o (numbered r₂) room₂ → (r₁ ≡ r₂) × (room₁ ≡ room₂)
same_ends o r₁ r₂ room₁ room₂ a b = (numbered_unique r₁ r₂ (a.0 ∙ sym b.0), a.1 ∙ sym b.1)

pub sent-unique :
    {M : Type 1} {𝓤 : Ura M} (𝓛 : Logic 𝓤) (mem : Memory → SProp 𝓤) (run : Routine → Fun 𝓤)
    → Determines 𝓤 sent.ended (sent.clauses 𝓛 mem run) (λ κs r₁ r₂ s₁ s₂. (r₁ ≡ r₂) × (s₁.1.0.now ≡ s₂.1.0.now))
sent-unique {𝓤 = 𝓤} 𝓛 mem run κs a g r₁ r₂ s₁ s₂ =
    both_say 𝓤 _ _ _ (λ p q. same_ends (sent_to a.0 a.1.0.now a.1.1.0 a.1.1.1.0) r₁ r₂ s₁.1.0.now s₂.1.0.now p q)

pub reply-unique :
    {M : Type 1} {𝓤 : Ura M} (𝓛 : Logic 𝓤) (mem : Memory → SProp 𝓤) (run : Routine → Fun 𝓤)
    → Determines 𝓤 reply.ended (reply.clauses 𝓛 mem run) (λ κs r₁ r₂ s₁ s₂. (r₁ ≡ r₂) × (s₁.1.0.now ≡ s₂.1.0.now))
reply-unique {𝓤 = 𝓤} 𝓛 mem run κs a g r₁ r₂ s₁ s₂ =
    both_say 𝓤 _ _ _ (λ p q. same_ends (reply_to a.0 a.1.0.now a.1.1.0) r₁ r₂ s₁.1.0.now s₂.1.0.now p q)

pub advance-unique :
    {M : Type 1} {𝓤 : Ura M} (𝓛 : Logic 𝓤) (mem : Memory → SProp 𝓤) (run : Routine → Fun 𝓤)
    → Determines 𝓤 advance.ended (advance.clauses 𝓛 mem run) (λ κs r₁ r₂ s₁ s₂. (r₁ ≡ r₂) × (s₁.1.0.now ≡ s₂.1.0.now))
advance-unique {𝓤 = 𝓤} 𝓛 mem run κs a g r₁ r₂ s₁ s₂ =
    both_say 𝓤 _ _ _ (λ p q. same_ends (advance_to a.0 a.1.0.now a.1.1.0) r₁ r₂ s₁.1.0.now s₂.1.0.now p q)

pub idle-unique : (κs : Lfts 0) (a : World.ArgsD idle.signature κs) (r₁ r₂ : World.ResD idle.signature κs) (s₁ s₂ : Clauses.AtExit (Kinds'.ended_of 0 idle-kinds.ps idle-kinds.r) κs)
    → idle-reads.Post κs a r₁ s₁ → idle-reads.Post κs a r₂ s₂ → r₁ ≡ r₂
idle-unique κs a r₁ r₂ s₁ s₂ p q = numbered_unique r₁ r₂ (p ∙ sym q)

pub deadline-unique :
    {M : Type 1} {𝓤 : Ura M} (𝓛 : Logic 𝓤) (mem : Memory → SProp 𝓤) (run : Routine → Fun 𝓤)
    → Determines 𝓤 deadline.ended (deadline.clauses 𝓛 mem run) (λ κs r₁ r₂ s₁ s₂. r₁ ≡ r₂)
deadline-unique {𝓤 = 𝓤} 𝓛 mem run κs a g r₁ r₂ s₁ s₂ = both_say 𝓤 _ _ _ (λ p q. numbered_unique r₁ r₂ (p ∙ sym q))

-- ---- the number of an answer
number_by : (n : ℕ) (m : Monitor) (b : Bool) → eqb n 0 ≡ b → number (choose b (Ok m) (Err n)) ≡ n
number_by n m true e = sym (eqb-true n 0 e)
number_by n m false e = refl

number-answered : (n : ℕ) (m : Monitor) → number (answered n m) ≡ n
unfolding answered
number-answered n m = number_by n m (eqb n 0) refl

pub sent-number : (m : Monitor) (room : List QueuedProbe) (s t : ℕ) → number (sent_to m room s t).answer ≡ refusal_of_sent m (length room) t
unfolding sent_to
sent-number m room s t = number-answered (refusal_of_sent m (length room) t) (sent_if true m room s t).monitor

pub reply-number : (m : Monitor) (room : List QueuedProbe) (s : ℕ) → number (reply_to m room s).answer ≡ refusal_of m (length room)
unfolding reply_to
reply-number m room s = number-answered (refusal_of m (length room)) (reply_if true m room s).monitor

pub advance-number : (m : Monitor) (room : List QueuedProbe) (t : ℕ) → number (advance_to m room t).answer ≡ refusal_of m (length room)
unfolding advance_to
advance-number m room t = number-answered (refusal_of m (length room)) (advance_if true m room t).monitor

pub idle-number : (m : Monitor) → number (idle_to m) ≡ refusal_of m capacity
unfolding idle_to
idle-number m = number_by (refusal_of m capacity) (idle_on m) (eqb (refusal_of m capacity) 0) refl

-- ---- a refusal hands back its number only, and the room as it was
abbrev Untouched : ℕ → List QueuedProbe → Outcome → Type 0
Untouched n room o = (o.answer ≡ Err n) × (o.room ≡ room)

answered-by : (n : ℕ) (m : Monitor) → eqb n 0 ≡ false → answered n m ≡ Err n
unfolding answered
answered-by n m e = ap (λ (b : Bool). choose b (Ok m) (Err n)) e

refuses : (n : ℕ) (on off : MonitorStand) → eqb n 0 ≡ false → Untouched n off.room (outcome n (choose (served true n) on off))
refuses n on off e = (answered-by n (choose (served true n) on off).monitor e, ap (λ (b : Bool). (choose b on off).room) e)

pub sent-refused : (m : Monitor) (room : List QueuedProbe) (s t : ℕ) → (refusal_of_sent m (length room) t ≡ 0 → ⊥) → Untouched (refusal_of_sent m (length room) t) room (sent_to m room s t)
unfolding sent_to sent_if
sent-refused m room s t no_zero = refuses (refusal_of_sent m (length room) t) (sent_on m room s t) (unchanged m room) (ne_eqb _ _ no_zero)

both : (a b : Bool) (on off : MonitorStand) → choose (a && b) on off ≡ choose a (choose b on off) off
both true b on off = refl
both false b on off = refl

pub reply-refused : (m : Monitor) (room : List QueuedProbe) (s : ℕ) → (refusal_of m (length room) ≡ 0 → ⊥) → Untouched (refusal_of m (length room)) room (reply_to m room s)
unfolding reply_to reply_if
reply-refused m room s no_zero =
    let n = refusal_of m (length room) in
    let e : eqb n 0 ≡ false = ne_eqb n 0 no_zero in
    (answered-by n _ e, ap (λ (y : MonitorStand). y.room) (both (served true n) m.transmitting (reply_on m room s) (unchanged m room)) ∙ ap (λ (b : Bool). (choose b (choose m.transmitting (reply_on m room s) (unchanged m room)) (unchanged m room)).room) e)

pub advance-refused : (m : Monitor) (room : List QueuedProbe) (t : ℕ) → (refusal_of m (length room) ≡ 0 → ⊥) → Untouched (refusal_of m (length room)) room (advance_to m room t)
unfolding advance_to advance_if
advance-refused m room t no_zero = refuses (refusal_of m (length room)) (advance_on m room t) (unchanged m room) (ne_eqb _ _ no_zero)

pub idle-refused : (m : Monitor) → (refusal_of m capacity ≡ 0 → ⊥) → idle_to m ≡ Err (refusal_of m capacity)
unfolding idle_to
idle-refused m no_zero = ap (λ (b : Bool). choose b (Ok (idle_on m)) (Err (refusal_of m capacity))) (ne_eqb (refusal_of m capacity) 0 no_zero)

-- a call that whoever makes it does not want to go on changes nothing
pub sent-held : (m : Monitor) (room : List QueuedProbe) (s t : ℕ) → sent_if false m room s t ≡ unchanged m room
unfolding sent_if
sent-held m room s t = refl

pub reply-held : (m : Monitor) (room : List QueuedProbe) (s : ℕ) → reply_if false m room s ≡ unchanged m room
unfolding reply_if
reply-held m room s = refl

pub advance-held : (m : Monitor) (room : List QueuedProbe) (t : ℕ) → advance_if false m room t ≡ unchanged m room
unfolding advance_if
advance-held m room t = refl
