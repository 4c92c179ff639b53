-- The monitor of a link after any calls is the plain model's after the calls that it was served: one call at a time.
-- Assumes nothing.
use Rattle.std.specs.Prelude.{Option, Some, None}
use mathlib.Core.Path.{◌≡◌, refl, sym, ap, ◌∙◌, subst}
use mathlib.Core.Bool.{Bool, true, false}
use mathlib.Core.List.{List, [], ◌∷◌}
use Prim.Native.Nat.{ℕ, zero, suc}
use native.Mathlib.Omega.{arith}
use lib.Dec.{eqb}
use lib.ListN.{length}
use Rattle.limits.specs.Limits.{capacity}
use Rattle.call_types.specs.declared.SentProbe.{SentProbe}
use Rattle.call_types.specs.declared.Reply.{Reply}
use Rattle.chains.proofs.Tests.{eq_false}
use Rattle.probe_queue.specs.declared.QueuedProbe.{QueuedProbe}
use Rattle.probe_queue.specs.Queue.{choose}
use Rattle.monitor.specs.declared.Monitor.{Monitor}
use Rattle.monitor.specs.Refusals as refusals
use Rattle.monitor.specs.Operations.{MonitorStand, sent_if, reply_if, advance_if, idle_on}
use Rattle.monitor_model.specs.Plain.{Plain, refusal, sent_refusal, sent, reply, advance, idle, deadline}
use Rattle.monitor_model.specs.Playing as monitor
use Rattle.monitor_model.proofs.Standing.{seen, Next}
use Rattle.monitor_model.proofs.Following.{same-refusal, same-sent_refusal, same-deadline, agrees}
use Rattle.monitor_model.proofs.Model.{begins}
use Rattle.link_steps.specs.Steps.{LinkStand, watch_sent, watch_reply, watch_advance, watch_idle, watch_refuses_sent, watch_refuses}
use Rattle.link_history.specs.Fresh.{Watching, QueueFits, fresh_watch}
use Rattle.link_history.specs.Fresh as making
use Rattle.link_history.proofs.Monitor.{ring_sent, ring_reply, ring_advance, ring_idle}
use Rattle.link_mixed_history.specs.Mixed.{alone, alone_number, alone_leaves, monitor_kept, MixedCall}
use Rattle.link_mixed_history.specs.Shows.{plain_from, PlainShows, plain_refuses_sent, plain_refuses, alone_refuses}

-- the plain monitor is shown, and all that keeps it so
abbrev pub PlainFollows : Watching → List monitor.Call → Option Monitor → List QueuedProbe → Type 0
PlainFollows making.alone ops None queue = Unit {0}
PlainFollows making.alone ops (Some m) queue = ⊥
PlainFollows (making.watching threshold timeout) ops None queue = ⊥
PlainFollows (making.watching threshold timeout) ops (Some m) queue = Next (record { monitor = m; room = queue }) (plain_from threshold timeout ops)

pub follows_fresh : (v : Watching) (queue : List QueuedProbe) → QueueFits v queue → PlainFollows v [] (fresh_watch v) queue
unfolding plain_from
follows_fresh making.alone queue fit = tt
follows_fresh (making.watching threshold timeout) queue fit = (λ s. false, (refl, begins threshold timeout queue fit))

-- ---- one call that the monitor is served

-- as its own call leaves it
next_one : (x : MonitorStand) (p : Plain) (c : monitor.Call) → Next x p → Next (monitor.play_ring c x).stand (monitor.play_plain c p).plain
next_one x p c f = subst (λ (q : Plain). Next (monitor.play_ring c x).stand (monitor.play_plain c q).plain) (sym f.1.0) (agrees x f.0 f.1.1 c).1

module _ (ops : List monitor.Call) where
  pub heard-sent : (v : Watching) (w : Option Monitor) (queue : List QueuedProbe) (s : SentProbe) → watch_refuses_sent w (length queue) s ≡ 0 → PlainFollows v ops w queue
      → PlainFollows v (monitor.sending s.sequence s.packet.time ∷ ops) (watch_sent true w queue s).watch (watch_sent true w queue s).queue
  unfolding plain_from
  heard-sent making.alone None queue s e f = tt
  heard-sent making.alone (Some m) queue s e f = absurd f
  heard-sent (making.watching threshold timeout) None queue s e f = absurd f
  heard-sent (making.watching threshold timeout) (Some m) queue s e f =
      subst (λ (y : MonitorStand). Next y (monitor.play_plain (monitor.sending s.sequence s.packet.time) (plain_from threshold timeout ops)).plain)
      (ring_sent (record { monitor = m; room = queue }) f.0 f.1.1 s.sequence s.packet.time e)
      (next_one (record { monitor = m; room = queue }) (plain_from threshold timeout ops) (monitor.sending s.sequence s.packet.time) f)

  pub heard-reply : (v : Watching) (w : Option Monitor) (queue : List QueuedProbe) (a : Reply) → watch_refuses w (length queue) ≡ 0 → PlainFollows v ops w queue
      → PlainFollows v (monitor.replying a.key.sender ∷ ops) (watch_reply true w queue a).watch (watch_reply true w queue a).queue
  unfolding plain_from
  heard-reply making.alone None queue a e f = tt
  heard-reply making.alone (Some m) queue a e f = absurd f
  heard-reply (making.watching threshold timeout) None queue a e f = absurd f
  heard-reply (making.watching threshold timeout) (Some m) queue a e f =
      subst (λ (y : MonitorStand). Next y (monitor.play_plain (monitor.replying a.key.sender) (plain_from threshold timeout ops)).plain)
      (ring_reply (record { monitor = m; room = queue }) f.0 f.1.1 a.key.sender e)
      (next_one (record { monitor = m; room = queue }) (plain_from threshold timeout ops) (monitor.replying a.key.sender) f)

  pub heard-advance : (v : Watching) (w : Option Monitor) (queue : List QueuedProbe) (t : ℕ) → watch_refuses w (length queue) ≡ 0 → PlainFollows v ops w queue
      → PlainFollows v (monitor.advancing t ∷ ops) (watch_advance w queue t).watch (watch_advance w queue t).queue
  unfolding plain_from
  heard-advance making.alone None queue t e f = tt
  heard-advance making.alone (Some m) queue t e f = absurd f
  heard-advance (making.watching threshold timeout) None queue t e f = absurd f
  heard-advance (making.watching threshold timeout) (Some m) queue t e f =
      subst (λ (y : MonitorStand). Next y (monitor.play_plain (monitor.advancing t) (plain_from threshold timeout ops)).plain)
      (ring_advance (record { monitor = m; room = queue }) f.0 f.1.1 t e)
      (next_one (record { monitor = m; room = queue }) (plain_from threshold timeout ops) (monitor.advancing t) f)

  pub heard-idle : (v : Watching) (w : Option Monitor) (queue : List QueuedProbe) → watch_refuses w capacity ≡ 0 → PlainFollows v ops w queue
      → PlainFollows v (monitor.idling ∷ ops) (watch_idle w queue).watch (watch_idle w queue).queue
  unfolding plain_from
  heard-idle making.alone None queue e f = tt
  heard-idle making.alone (Some m) queue e f = absurd f
  heard-idle (making.watching threshold timeout) None queue e f = absurd f
  heard-idle (making.watching threshold timeout) (Some m) queue e f =
      rw e (subst (λ (y : MonitorStand). Next y (monitor.play_plain monitor.idling (plain_from threshold timeout ops)).plain)
      (ring_idle (record { monitor = m; room = queue }) f.0 f.1.1 e)
      (next_one (record { monitor = m; room = queue }) (plain_from threshold timeout ops) monitor.idling f))

  -- ---- a call of the monitor alone, refused or not

  -- a refused one leaves the plain monitor
  plain-refused : (c : monitor.Call) (p : Plain) (n : ℕ) → (monitor.play_plain c p).number ≡ suc n → (monitor.play_plain c p).plain ≡ p
  unfolding monitor.play_plain
  plain-refused (monitor.sending s t) p n e = rw (e, eq_false (suc n) 0 (λ q. omega (arith, q)))
  plain-refused (monitor.replying s) p n e = rw (e, eq_false (suc n) 0 (λ q. omega (arith, q)))
  plain-refused (monitor.advancing t) p n e = rw (e, eq_false (suc n) 0 (λ q. omega (arith, q)))
  plain-refused monitor.idling p n e = rw (e, eq_false (suc n) 0 (λ q. omega (arith, q)))

  -- its number is the plain model's
  pub alone_number_lem : (v : Watching) (w : Option Monitor) (queue : List QueuedProbe) (c : monitor.Call) → PlainFollows v ops w queue → alone_number w queue c ≡ alone_refuses v ops c
  alone_number_lem making.alone None queue c f = refl
  alone_number_lem making.alone (Some m) queue c f = absurd f
  alone_number_lem (making.watching threshold timeout) None queue c f = absurd f
  alone_number_lem (making.watching threshold timeout) (Some m) queue c f =
      (agrees (record { monitor = m; room = queue }) f.0 f.1.1 c).0 ∙ ap (λ (p : Plain). (monitor.play_plain c p).number) (sym f.1.0)

  -- what it leaves
  pub alone_follows : (v : Watching) (k : LinkStand) (h : List _) (c : monitor.Call) (w : Option Monitor) → PlainFollows v ops w k.queue
      → PlainFollows v (monitor_kept (alone_number w k.queue c) h (alone c) ops) (alone_leaves w k c).link.watch (alone_leaves w k c).queue
  unfolding plain_from
  alone_follows making.alone k h c None f = tt
  alone_follows making.alone k h c (Some m) f = absurd f
  alone_follows (making.watching threshold timeout) k h c None f = absurd f
  alone_follows (making.watching threshold timeout) k h c (Some m) f = go (alone_number (Some m) k.queue c) refl
    where
      x : MonitorStand
      x = record { monitor = m; room = k.queue }

      go : (n : ℕ) → alone_number (Some m) k.queue c ≡ n → Next (monitor.play_ring c x).stand (plain_from threshold timeout (monitor_kept n h (alone c) ops))
      go zero e = next_one x (plain_from threshold timeout ops) c f
      go (suc n) e =
          subst (λ (p : Plain). Next (monitor.play_ring c x).stand p)
          (plain-refused c (plain_from threshold timeout ops) n (sym (alone_number_lem (making.watching threshold timeout) (Some m) k.queue c f) ∙ e))
          (next_one x (plain_from threshold timeout ops) c f)

  -- ---- the refusals

  pub sent-refused : (v : Watching) (w : Option Monitor) (queue : List QueuedProbe) (s : SentProbe) → PlainFollows v ops w queue
      → watch_refuses_sent w (length queue) s ≡ plain_refuses_sent v ops s.packet.time
  sent-refused making.alone None queue s f = refl
  sent-refused making.alone (Some m) queue s f = absurd f
  sent-refused (making.watching threshold timeout) None queue s f = absurd f
  sent-refused (making.watching threshold timeout) (Some m) queue s f =
      same-sent_refusal (record { monitor = m; room = queue }) f.0 f.1.1 s.packet.time ∙ ap (λ (p : Plain). sent_refusal p s.packet.time) (sym f.1.0)

  pub other-refused : (v : Watching) (w : Option Monitor) (queue : List QueuedProbe) → PlainFollows v ops w queue → watch_refuses w (length queue) ≡ plain_refuses v ops
  other-refused making.alone None queue f = refl
  other-refused making.alone (Some m) queue f = absurd f
  other-refused (making.watching threshold timeout) None queue f = absurd f
  other-refused (making.watching threshold timeout) (Some m) queue f =
      same-refusal (record { monitor = m; room = queue }) f.0 f.1.1 ∙ ap refusal (sym f.1.0)

  pub idle-refused : (v : Watching) (w : Option Monitor) (queue : List QueuedProbe) → PlainFollows v ops w queue → watch_refuses w capacity ≡ plain_refuses v ops
  idle-refused making.alone None queue f = refl
  idle-refused making.alone (Some m) queue f = absurd f
  idle-refused (making.watching threshold timeout) None queue f = absurd f
  idle-refused (making.watching threshold timeout) (Some m) queue f =
      ap (refusals.refusal_of m) (sym f.1.1.long) ∙ same-refusal (record { monitor = m; room = queue }) f.0 f.1.1 ∙ ap refusal (sym f.1.0)

-- ---- what is shown

pub plain-shown : (v : Watching) (ops : List monitor.Call) (w : Option Monitor) (queue : List QueuedProbe) → PlainFollows v ops w queue → PlainShows v ops w queue
plain-shown making.alone ops None queue f = tt
plain-shown making.alone ops (Some m) queue f = f
plain-shown (making.watching threshold timeout) ops None queue f = f
plain-shown (making.watching threshold timeout) ops (Some m) queue f = record {
  state = record {
    summary = sym (ap (λ (r : Plain). r.summary) f.1.0);
    timeout = sym (ap (λ (r : Plain). r.timeout) f.1.0);
    transmitting = sym (ap (λ (r : Plain). r.transmitting) f.1.0);
    probes = sym (ap (λ (r : Plain). r.probes) f.1.0);
    received = λ s. f.1.1.received s ∙ sym (ap (λ (r : Plain). r.received s) f.1.0);
  };
  deadline_is = same-deadline (record { monitor = m; room = queue }) f.0 f.1.1 ∙ ap (λ (r : Plain). deadline r.probes) (sym f.1.0);
}
