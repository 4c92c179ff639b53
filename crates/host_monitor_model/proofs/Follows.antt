-- A host's calls of the monitor from fresh, refused ones included: the numbers of all answers are the plain model's, and so are the summary, the queued
-- probes and the set of marked sequences that the words and the queue say after them. The words and the queue may have held anything before.
-- Assumes nothing.
use Rattle.std.specs.Prelude.{Result, Ok, Err}
use mathlib.Core.Path.{◌≡◌, refl, sym, ap, subst, ◌∙◌}
use mathlib.Core.Bool.{Bool, true, false}
use mathlib.Core.List.{List, [], ◌∷◌}
use Prim.Native.Nat.{ℕ, ◌<◌, ◌^◌}
use lib.ListN.{length}
use lib.Dec.{eqb}
use Rattle.limits.specs.Limits.{capacity}
use Rattle.probe_queue.specs.declared.QueuedProbe.{QueuedProbe}
use Rattle.probe_queue.specs.Queue.{choose}
use Rattle.monitor.specs.declared.Monitor.{Monitor}
use Rattle.monitor.specs.Refusals.{refusal_of, refusal_of_sent}
use Rattle.monitor.specs.Operations.{MonitorStand, fresh, idle_on, sent_if, reply_if, advance_if}
use Rattle.monitor.specs.Answers.{answered, deadline_of}
use Rattle.monitor.specs.Answers as monitor
use Rattle.monitor_model.specs.Plain.{new, deadline}
use Rattle.monitor_model.specs.Playing.{Call, sending, replying, advancing, idling, keep, play_ring, ring_numbers, ring_after, plain_numbers, plain_after, Shows}
use Rattle.monitor_model.proofs.Model.{follows, deadline_follows}
use Rattle.host_monitor_words.specs.Words.{Fits, monitor_at, words_after}
use Rattle.host_monitor_words.proofs.Stored.{stored}
use Rattle.host_monitor_words.proofs.Fitting.{fits-at, fits-sent, fits-reply, fits-advance, fits-idle}
use Rattle.host_monitor.specs.Calls.{sent_to, reply_to, advance_to, idle_to}
use Rattle.host_monitor.proofs.Standing.{fresh_stands}
use Rattle.host_monitor_model.specs.Hosted.{Lent, said, play_host, host_numbers, host_after, begun, Typed, AllTyped}

-- an answer whose monitor fits its types
abbrev Fitting : Result Monitor ℕ → Type 0
Fitting (Ok m) = Fits m
Fitting (Err n) = Unit {0}

fitting : (b : Bool) (m : Monitor) (n : ℕ) → Fits m → Fitting (choose b (Ok m) (Err n))
fitting true m n f = f
fitting false m n f = tt

-- the words after a call say the monitor that whoever calls the library keeps
kept : (x : Lent) (a : Result Monitor ℕ) (room : List QueuedProbe) → Fitting a → said (record { words = words_after x.words a; queue = room }) ≡ keep (said x) a room
kept x (Ok m) room f = ap (λ (n : Monitor). record { monitor = n; room = room }) (stored m f)
kept x (Err n) room f = refl

-- ---- one call
abbrev Agrees : Call → Lent → Type 0
Agrees c x = ((play_host c x).number ≡ (play_ring c (said x)).number) × (said (play_host c x).lent ≡ (play_ring c (said x)).stand)

pub agrees : (c : Call) (x : Lent) → Typed c → Agrees c x
unfolding play_host play_ring sent_to reply_to advance_to idle_to monitor.sent_to monitor.reply_to monitor.advance_to monitor.idle_to answered
agrees (sending s t) x h =
    let m = monitor_at x.words in
    let n = refusal_of_sent m (length x.queue) t in
    (refl, kept x (answered n (sent_if true m x.queue s t).monitor) (sent_if true m x.queue s t).room (fitting (eqb n 0) _ n (fits-sent true m x.queue s t h (fits-at x.words))))
agrees (replying s) x h =
    let m = monitor_at x.words in
    let n = refusal_of m (length x.queue) in
    (refl, kept x (answered n (reply_if true m x.queue s).monitor) (reply_if true m x.queue s).room (fitting (eqb n 0) _ n (fits-reply true m x.queue s (fits-at x.words))))
agrees (advancing t) x h =
    let m = monitor_at x.words in
    let n = refusal_of m (length x.queue) in
    (refl, kept x (answered n (advance_if true m x.queue t).monitor) (advance_if true m x.queue t).room (fitting (eqb n 0) _ n (fits-advance true m x.queue t (fits-at x.words))))
agrees idling x h =
    let m = monitor_at x.words in
    let n = refusal_of m capacity in
    (refl, kept x (monitor.idle_to m) x.queue (fitting (eqb n 0) (idle_on m) n (fits-idle m (fits-at x.words))))

-- ---- all calls
agree_all : (cs : List Call) (x : Lent) → AllTyped cs → (host_numbers cs x ≡ ring_numbers cs (said x)) × (said (host_after cs x) ≡ ring_after cs (said x))
unfolding host_numbers host_after ring_numbers ring_after
agree_all [] x h = (refl, refl)
agree_all (c ∷ cs) x h =
    let a = agrees c x h.0 in
    let r = agree_all cs (play_host c x).lent h.1 in
    ((λ i. a.0 i ∷ (r.0 ∙ ap (ring_numbers cs) a.1) i), r.1 ∙ ap (ring_after cs) a.1)

abbrev at_once : ℕ → ℕ → List QueuedProbe → MonitorStand
at_once threshold timeout queue = record { monitor = fresh threshold timeout; room = queue }

pub begins : (threshold timeout : ℕ) (queue : List QueuedProbe) → threshold < 2 ^ 16 → said (begun threshold timeout queue) ≡ at_once threshold timeout queue
begins threshold timeout queue h = λ i. record { monitor = fresh_stands threshold timeout h i; room = queue }

-- THE THEOREM
pub host_follows : (threshold timeout : ℕ) (queue : List QueuedProbe) (calls : List Call) → threshold < 2 ^ 16 → length queue ≡ capacity → AllTyped calls
    → (host_numbers calls (begun threshold timeout queue) ≡ plain_numbers calls (new threshold timeout)) × Shows (said (host_after calls (begun threshold timeout queue))) (plain_after calls (new threshold timeout))
host_follows threshold timeout queue calls h long typed =
    let x = begun threshold timeout queue in
    let e = begins threshold timeout queue h in
    let a = agree_all calls x typed in
    let f = follows threshold timeout queue calls long in
    (a.0 ∙ ap (ring_numbers calls) e ∙ f.0, subst (λ (y : MonitorStand). Shows y (plain_after calls (new threshold timeout))) (sym (a.1 ∙ ap (ring_after calls) e)) f.1)

-- and the deadline that `ambrulicciu_monitor_deadline` answers then
pub host_deadline : (threshold timeout : ℕ) (queue : List QueuedProbe) (calls : List Call) → threshold < 2 ^ 16 → length queue ≡ capacity → AllTyped calls
    → deadline_of (monitor_at (host_after calls (begun threshold timeout queue)).words) (host_after calls (begun threshold timeout queue)).queue ≡ deadline (plain_after calls (new threshold timeout)).probes
host_deadline threshold timeout queue calls h long typed =
    let x = begun threshold timeout queue in
    let e = begins threshold timeout queue h in
    let a = agree_all calls x typed in
    ap (λ (y : MonitorStand). deadline_of y.monitor y.room) (a.1 ∙ ap (ring_after calls) e) ∙ deadline_follows threshold timeout queue calls long
