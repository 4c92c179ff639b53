-- Q-10 of a link with a monitor, made fresh over any rooms of the right size, by any calls, refused ones included.
-- Assumes nothing.
use Rattle.std.specs.Prelude.{Some, None, Option}
use Rattle.monitor.specs.declared.Monitor.{Monitor}
use mathlib.Core.Path.{◌≡◌, refl, sym, ap, subst, ◌∙◌}
use mathlib.Core.Bool.{Bool, true, false, cond}
use mathlib.Core.List.{List, [], ◌∷◌}
use Prim.Native.Nat.{ℕ, zero, suc, ◌<◌, ◌^◌}
use Rattle.limits.specs.Limits.{capacity}
use Rattle.call_types.specs.declared.Reply.{Reply}
use Rattle.call_types.specs.declared.Call.{Call}
use Rattle.call_types.specs.declared.Call.TheVariants.{Sent, Accept, Observe, Advance, Idle}
use Rattle.probe_queue.specs.declared.QueuedProbe.{QueuedProbe}
use Rattle.monitor_model.specs.Plain.{Plain, new, reply}
use Rattle.monitor_model.specs.Playing.{replying}
use Rattle.monitor_model.specs.Playing as monitor
use Rattle.monitor_in_time.specs.InTime.{counting, InTime}
use Rattle.monitor_in_time.specs.Core.{seen_plain}
use Rattle.monitor_in_time.proofs.Sound.{does, counting_positive, new_keeps}
use Rattle.monitor_in_time.proofs.InTime.{Steps, Models, holds}
use Rattle.monitor_in_time.proofs.Core.{counting_few}
use Rattle.history.specs.Given.{packet_of}
use Rattle.history.specs.Ledger.{copies_of, unique?, events}
use Rattle.link_steps.specs.Steps.{LinkStand, accept_result, was_unique, refuses, after, played, kept_if, served}
use Rattle.link_history.specs.Fresh.{Watching, watching, Making, MakingFits, fresh_link, Fits, AllFits}
use Rattle.link_history.specs.Shows.{LedgerShows}
use Rattle.link_history.specs.Monitor.{monitor_from, WatchShows}
use Rattle.link_history.proofs.Shows.{ledger_follows}
use Rattle.link_history.proofs.Monitor.{says_unique}
use Rattle.link_history.proofs.Watched.{watch_shows}
use Rattle.link_in_time.specs.Link.{drives_of, seen_watch, link}

-- what is shown is what is seen
seen-shown : (threshold timeout : ℕ) (h : List Call) (w : Option Monitor) (queue : List QueuedProbe) → WatchShows (watching threshold timeout) h w queue → seen_watch w queue ≡ seen_plain (monitor_from threshold timeout h)
seen-shown threshold timeout h None queue s = absurd s
seen-shown threshold timeout h (Some m) queue s = λ i. record { summary = s.state.summary i; transmitting = s.state.transmitting i; queued = s.state.probes i }

-- ---- one call: what the served calls then call for is what the call does to the monitor

module _ (threshold timeout : ℕ) (h : List Call) where
  abbrev p : Plain
  p = monitor_from threshold timeout h

  accepted : (a : Reply) (b : Bool) → b ≡ unique? capacity a.key (packet_of a.pending) (events capacity h)
      → Steps (cond b (Some (replying a.key.sender)) None) 0 p (monitor_from threshold timeout (Accept a ∷ h))
  unfolding monitor_from does
  accepted a true e = ap (λ (b : Bool). cond b (reply p a.key.sender) p) (sym e)
  accepted a false e = ap (λ (b : Bool). cond b (reply p a.key.sender) p) (sym e)

  turned_away : (d : Option monitor.Call) (n : ℕ) → Steps d (suc n) p p
  turned_away None n = refl
  turned_away (Some c) n = refl

  module _ (copies : ℕ) (k : LinkStand) (shows : LedgerShows copies h k) where
    served-steps : (c : Call) → Fits c → refuses k c ≡ 0 → Steps (drives_of k c) 0 p (monitor_from threshold timeout (c ∷ h))
    unfolding monitor_from does
    served-steps (Sent s) f e = refl
    served-steps (Accept a) f e = accepted a (was_unique (accept_result k a).answer) (ap was_unique (shows.accepted a f.0 e) ∙ says_unique h a)
    served-steps (Observe o) f e = refl
    served-steps (Advance t) f e = refl
    served-steps Idle f e = refl

    call_steps : (c : Call) → Fits c → (n : ℕ) → refuses k c ≡ n → Steps (drives_of k c) n p (monitor_from threshold timeout (kept_if n c h))
    call_steps c f zero e = served-steps c f e
    call_steps c f (suc n) e = turned_away (drives_of k c) n

-- ---- all calls

module _ (m : Making) (ok : MakingFits m) (threshold timeout : ℕ) (with-monitor : m.monitor ≡ watching threshold timeout) where
  -- the link stands after these calls, and the plain monitor is that of the served ones
  pub record Stands (k : LinkStand) (p : Plain) : Type 0 where
    pub made : List Call
    pub fit : AllFits made
    pub stands : k ≡ played (fresh_link m) made
    pub model : p ≡ monitor_from threshold timeout (served (fresh_link m) made)

  pub link_models : Models link Fits Stands
  unfolding played served AllFits
  link_models = record {
    shows = λ k p s.
        ap (λ (x : LinkStand). seen_watch x.link.watch x.queue) s.stands
        ∙ seen-shown threshold timeout (served (fresh_link m) s.made) (played (fresh_link m) s.made).link.watch (played (fresh_link m) s.made).queue
        (subst (λ (v : Watching). WatchShows v (served (fresh_link m) s.made) (played (fresh_link m) s.made).link.watch (played (fresh_link m) s.made).queue) with-monitor (watch_shows m ok s.made s.fit))
        ∙ ap seen_plain (sym s.model);
    steps = λ k p s c f.
        let x = played (fresh_link m) s.made in
        let h = served (fresh_link m) s.made in
        let q = monitor_from threshold timeout (kept_if (refuses x c) c h) in
        let t : Steps (drives_of x c) (refuses x c) (monitor_from threshold timeout h) q = call_steps threshold timeout h (copies_of m.copies) x (ledger_follows m ok s.made s.fit) c f (refuses x c) refl in (
          q,
          record { made = c ∷ s.made; fit = (f, s.fit); stands = ap (λ (y : LinkStand). after y c) s.stands; model = refl },
          subst (λ (y : LinkStand). Steps (drives_of y c) (refuses y c) p q) (sym s.stands) (subst (λ (r : Plain). Steps (drives_of x c) (refuses x c) r q) (sym s.model) t),
        );
  }

  pub link_begins : Stands (fresh_link m) (new threshold timeout)
  unfolding played served AllFits monitor_from
  link_begins = record { made = []; fit = tt; stands = refl; model = refl }

  -- THE THEOREM
  pub link_in_time : threshold < 2 ^ 16 → InTime link Fits (counting threshold) (fresh_link m)
  link_in_time h =
      holds link Fits Stands link_models (counting threshold) (counting_positive threshold) (counting_few threshold h) (fresh_link m) (new threshold timeout) link_begins
      (new_keeps threshold timeout)
