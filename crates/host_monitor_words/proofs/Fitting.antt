-- Every monitor that words say fits its types, and each call of the monitor leaves one that fits: so what a call stores is read back.
-- Assumes nothing.
use mathlib.Core.Path.{◌≡◌, refl}
use mathlib.Core.Bool.{Bool, true, false, ◌&&◌}
use mathlib.Core.List.{List}
use Prim.Native.Nat.{ℕ, zero, suc, ◌+◌, ◌<◌, ◌^◌}
use native.Mathlib.Omega.{arith}
use lib.ListN.{length}
use lib.Dec.{eqb, leb, ltb}
use borrow.Author.Tests.{leb-true}
use Rattle.probe_queue.specs.declared.QueuedProbe.{QueuedProbe}
use Rattle.probe_queue.specs.declared.QueueRing.{QueueRing}
use Rattle.probe_queue.specs.Queue.{choose, after}
use Rattle.monitor.specs.declared.State.{State}
use Rattle.monitor.specs.declared.State.TheVariants.{Idle, Active, Failed}
use Rattle.monitor.specs.declared.Summary.{Summary}
use Rattle.monitor.specs.declared.Monitor.{Monitor}
use Rattle.monitor.specs.Refusals.{refusal_of, refusal_of_sent, served}
use Rattle.monitor.specs.States.{most_losses, same, losing, enters, saturated, loses, hears, stops}
use Rattle.monitor.specs.Operations.{MonitorStand, fresh, standing, queues, starts, sent_on, searched, taken, reply_on, due, advance_on, idle_on, unchanged, sent_if, reply_if, advance_if}
use Rattle.host_monitor_words.specs.Words.{Fits, summary_at, monitor_at}

-- ---- of a summary
abbrev Sound : Summary → Type 0
Sound s = (s.loss_threshold < 2 ^ 16) × (s.consecutive_losses < 2 ^ 32)

sound_choose : (b : Bool) (x y : Summary) → Sound x → Sound y → Sound (choose b x y)
sound_choose true x y p q = p
sound_choose false x y p q = q

sound_enters : (to : State) (s : Summary) → Sound s → Sound (enters to s)
unfolding enters
sound_enters Idle s p = (p.0, omega arith)
sound_enters Active s p = (p.0, omega arith)
sound_enters Failed s p = p

sound_hears : (s : Summary) → Sound s → Sound (hears s)
sound_hears s p = sound_choose (same Active s.state) (losing 0 s) (enters Active (losing 0 s)) (p.0, omega arith) (sound_enters Active (losing 0 s) (p.0, omega arith))

saturated-below : (a : ℕ) (b : Bool) → leb a most_losses ≡ b → choose b a most_losses < 2 ^ 32
saturated-below a true e = let l = leb-true a most_losses e in omega (arith, l)
saturated-below a false e = omega arith

sound_loses : (n : ℕ) (s : Summary) → Sound s → Sound (loses n s)
unfolding loses
sound_loses zero s p = p
sound_loses (suc n) s p =
    let lost = losing (saturated s.consecutive_losses (suc n)) s in
    let q : Sound lost = (p.0, saturated-below (s.consecutive_losses + suc n) (leb (s.consecutive_losses + suc n) most_losses) refl) in
    sound_choose (leb lost.loss_threshold lost.consecutive_losses) _ lost
    (sound_choose (same Failed lost.state) lost (enters Failed lost) q (sound_enters Failed lost q)) q

sound_stops : (transmitting : Bool) (s : Summary) → Sound s → Sound (stops transmitting s)
sound_stops transmitting s p = sound_choose (same Idle s.state) _ (enters Idle s) (sound_choose transmitting _ s p p) (sound_enters Idle s p)

-- ---- of a monitor
fits-with : (m : Monitor) (s : Summary) (ring : QueueRing) → Fits m → Sound s → Fits (standing m s ring)
fits-with m s ring f p = record { threshold = p.0; losses = p.1; latest = f.latest }

sound_of : (m : Monitor) → Fits m → Sound m.summary
sound_of m f = (f.threshold, f.losses)

fits-choose : (b : Bool) (x y : MonitorStand) → Fits x.monitor → Fits y.monitor → Fits (choose b x y).monitor
fits-choose true x y p q = p
fits-choose false x y p q = q

pub fits-at : (words : List ℕ) → Fits (monitor_at words)
unfolding monitor_at summary_at
fits-at words = record { threshold = omega arith; losses = omega arith; latest = omega arith }

threshold_below : (threshold : ℕ) (b : Bool) → threshold < 2 ^ 16 → choose b 1 threshold < 2 ^ 16
threshold_below threshold true h = omega arith
threshold_below threshold false h = h

pub fits_fresh : (threshold timeout : ℕ) → threshold < 2 ^ 16 → Fits (fresh threshold timeout)
fits_fresh threshold timeout h = record { threshold = threshold_below threshold (eqb threshold 0) h; losses = omega arith; latest = omega arith }

pub fits-sent : (go : Bool) (m : Monitor) (room : List QueuedProbe) (s t : ℕ) → s < 2 ^ 32 → Fits m → Fits (sent_if go m room s t).monitor
unfolding sent_if sent_on
fits-sent go m room s t h f =
    fits-choose (served go (refusal_of_sent m (length room) t)) (sent_on m room s t) (unchanged m room)
    (fits-choose (ltb 0 m.timeout) (queues m room s t) (record { monitor = starts m; room = room })
    (record { threshold = f.threshold; losses = f.losses; latest = h }) (record { threshold = f.threshold; losses = f.losses; latest = f.latest })) f

pub fits-reply : (go : Bool) (m : Monitor) (room : List QueuedProbe) (s : ℕ) → Fits m → Fits (reply_if go m room s).monitor
unfolding reply_if reply_on
fits-reply go m room s f =
    fits-choose (served go (refusal_of m (length room)) && m.transmitting) (reply_on m room s) (unchanged m room)
    (fits-with m (hears m.summary) (after m.ring (taken room (searched m room s) s)) f (sound_hears m.summary (sound_of m f))) f

pub fits-advance : (go : Bool) (m : Monitor) (room : List QueuedProbe) (t : ℕ) → Fits m → Fits (advance_if go m room t).monitor
unfolding advance_if advance_on
fits-advance go m room t f =
    fits-choose (served go (refusal_of m (length room))) (advance_on m room t) (unchanged m room)
    (fits-with m _ (after m.ring (due m room t)) f (sound_choose m.transmitting (loses (due m room t) m.summary) m.summary (sound_loses (due m room t) m.summary (sound_of m f)) (sound_of m f))) f

pub fits-idle : (m : Monitor) → Fits m → Fits (idle_on m)
unfolding idle_on
fits-idle m f = let p = sound_stops m.transmitting m.summary (sound_of m f) in record { threshold = p.0; losses = p.1; latest = f.latest }
