-- Calls one after another: the words that each call leaves say the monitor that the library's own call leaves, where it is refused too. So what holds of
-- the library's calls from fresh (crate monitor_model) holds of a host's.
-- Assumes nothing.
use Rattle.std.specs.Prelude.{Ok, Err}
use mathlib.Core.Path.{◌≡◌, refl, sym, ap}
use mathlib.Core.Bool.{Bool, true, false, ◌&&◌}
use mathlib.Core.List.{List}
use Prim.Native.Nat.{ℕ, ◌<◌, ◌^◌}
use lib.ListN.{length}
use lib.Dec.{eqb}
use Rattle.limits.specs.Limits.{capacity}
use Rattle.probe_queue.specs.declared.QueuedProbe.{QueuedProbe}
use Rattle.probe_queue.specs.Queue.{choose}
use Rattle.monitor.specs.declared.Monitor.{Monitor}
use Rattle.monitor.specs.Refusals.{refusal_of, refusal_of_sent}
use Rattle.monitor.specs.Operations.{MonitorStand, fresh, sent_on, reply_on, advance_on, idle_on, unchanged, sent_if, reply_if, advance_if}
use Rattle.monitor.specs.Answers.{answered}
use Rattle.monitor.specs.Answers as monitor
use Rattle.host_monitor_words.specs.Words.{Fits, monitor_at, words_after}
use Rattle.host_monitor_words.proofs.Stored.{stored}
use Rattle.host_monitor_words.proofs.Fitting.{fits-at, fits_fresh, fits-sent, fits-reply, fits-advance, fits-idle}
use Rattle.host_monitor.specs.Calls.{fresh_to, sent_to, reply_to, advance_to, idle_to}

-- a call that goes on exactly where its refusal is 0: next is what it leaves then
stands : (words : List ℕ) (next : Monitor) (b : Bool) (n : ℕ) → Fits next → (b ≡ false → next ≡ monitor_at words) → monitor_at (words_after words (choose b (Ok next) (Err n))) ≡ next
stands words next true n f i = stored next f
stands words next false n f i = sym (i refl)

pub fresh_stands : (threshold timeout : ℕ) → threshold < 2 ^ 16 → monitor_at (fresh_to threshold timeout).words ≡ fresh threshold timeout
unfolding fresh_to
fresh_stands threshold timeout h = stored (fresh threshold timeout) (fits_fresh threshold timeout h)

pub sent_stands : (words : List ℕ) (queue : List QueuedProbe) (s t : ℕ) → s < 2 ^ 32 →
    (monitor_at (sent_to words queue s t).words ≡ (sent_if true (monitor_at words) queue s t).monitor) × ((sent_to words queue s t).queue ≡ (sent_if true (monitor_at words) queue s t).room)
unfolding sent_to monitor.sent_to answered sent_if
sent_stands words queue s t h =
    let m = monitor_at words in
    let n = refusal_of_sent m (length queue) t in
    (stands words (sent_if true m queue s t).monitor (eqb n 0) n (fits-sent true m queue s t h (fits-at words)) (λ e. ap (λ (b : Bool). (choose b (sent_on m queue s t) (unchanged m queue)).monitor) e), refl)

held : (a b : Bool) (on off : MonitorStand) → a ≡ false → (choose (a && b) on off).monitor ≡ off.monitor
held a b on off e = ap (λ (c : Bool). (choose (c && b) on off).monitor) e

pub reply_stands : (words : List ℕ) (queue : List QueuedProbe) (s : ℕ) →
    (monitor_at (reply_to words queue s).words ≡ (reply_if true (monitor_at words) queue s).monitor) × ((reply_to words queue s).queue ≡ (reply_if true (monitor_at words) queue s).room)
unfolding reply_to monitor.reply_to answered reply_if
reply_stands words queue s =
    let m = monitor_at words in
    let n = refusal_of m (length queue) in
    (stands words (reply_if true m queue s).monitor (eqb n 0) n (fits-reply true m queue s (fits-at words)) (λ e. held (eqb n 0) m.transmitting (reply_on m queue s) (unchanged m queue) e), refl)

pub advance_stands : (words : List ℕ) (queue : List QueuedProbe) (t : ℕ) →
    (monitor_at (advance_to words queue t).words ≡ (advance_if true (monitor_at words) queue t).monitor) × ((advance_to words queue t).queue ≡ (advance_if true (monitor_at words) queue t).room)
unfolding advance_to monitor.advance_to answered advance_if
advance_stands words queue t =
    let m = monitor_at words in
    let n = refusal_of m (length queue) in
    (stands words (advance_if true m queue t).monitor (eqb n 0) n (fits-advance true m queue t (fits-at words)) (λ e. ap (λ (b : Bool). (choose b (advance_on m queue t) (unchanged m queue)).monitor) e), refl)

idle-by : (words : List ℕ) (next : Monitor) (b : Bool) (n : ℕ) → Fits next → monitor_at (words_after words (choose b (Ok next) (Err n))) ≡ choose b next (monitor_at words)
idle-by words next true n f = stored next f
idle-by words next false n f = refl

pub idle_stands : (words : List ℕ) → monitor_at (idle_to words).words ≡ choose (eqb (refusal_of (monitor_at words) capacity) 0) (idle_on (monitor_at words)) (monitor_at words)
unfolding idle_to monitor.idle_to
idle_stands words =
    let m = monitor_at words in
    idle-by words (idle_on m) (eqb (refusal_of m capacity) 0) (refusal_of m capacity) (fits-idle m (fits-at words))
