-- From a link made fresh with a monitor, after any calls, refused ones included: what the monitor shows follows from the served calls.
-- Assumes nothing.
use Rattle.std.specs.Prelude.{Option, Some, None, Ok, Err}
use mathlib.Core.Path.{◌≡◌, refl, sym, ap, ◌∙◌, subst}
use mathlib.Core.Bool.{Bool, true, false}
use mathlib.Core.List.{List, [], ◌∷◌}
use Prim.Native.Nat.{ℕ}
use native.Mathlib.Omega.{arith}
use lib.Dec.{eqb}
use lib.ListN.{length}
use Rattle.limits.specs.Limits.{capacity}
use Rattle.limits.specs.Refusals.{wrong_room, deadline_passes, counts_full, queue_full}
use Rattle.call_types.specs.declared.SentProbe.{SentProbe}
use Rattle.call_types.specs.declared.Reply.{Reply}
use Rattle.call_types.specs.declared.ReplyObservation.{ReplyObservation}
use Rattle.call_types.specs.declared.Call.{Call}
use Rattle.call_types.specs.declared.Call.TheVariants.{Sent, Accept, Observe, Advance, Idle}
use Rattle.probe_queue.specs.declared.QueuedProbe.{QueuedProbe}
use Rattle.probe_queue.specs.Queue.{choose}
use Rattle.monitor.specs.declared.Monitor.{Monitor}
use Rattle.monitor.specs.Refusals.{misplaced, passing, counted, crowded, refusal_of, refusal_of_sent}
use Rattle.monitor.specs.Operations as monitor
use Rattle.monitor.specs.Operations.{sent_if, reply_if, advance_if, idle_on}
use Rattle.monitor.specs.Answers.{answered, sent_to, reply_to, advance_to, idle_to}
use Rattle.monitor_model.specs.Plain.{Marks, Plain, sent, reply, advance, idle, deadline}
use Rattle.monitor_model.specs.Playing.{sending, replying, advancing, idling, play_plain, play_ring, keep}
use Rattle.monitor_model.proofs.Standing.{seen, Kept, Next}
use Rattle.monitor_model.proofs.Following.{same-refusal, same-sent_refusal, same-deadline, agrees}
use Rattle.monitor_model.proofs.Model.{begins}
use Rattle.ledger_checks.proofs.Order.{earlier-none}
use Rattle.history.specs.Given.{packet_of}
use Rattle.history.specs.Ledger.{Class, duplicate, unknown, unique, same_class, reply_class, answer_by, answer, unique?, events}
use Rattle.ledger_steps.specs.Refusals.{earlier}
use Rattle.reply_history.specs.Follows.{as_accepted}
use Rattle.link_steps.specs.Steps.{is_unique, watch_sent, watch_reply, watch_advance, watch_idle, watch_refuses_sent, watch_refuses}
use Rattle.link_history.specs.Fresh.{Watching, alone, watching, QueueFits, fresh_watch}
use Rattle.link_history.specs.Monitor.{monitor_from, WatchShows}
use Rattle.link_history.specs.Shows.{accepted_from}
use Rattle.link_history.proofs.Unchanged.{reply_off}

-- ---- one call that the monitor serves

module _ (x : monitor.MonitorStand) (marks : Marks) (ok : Kept x marks) where
  abbrev m : Monitor
  m = x.monitor

  abbrev p : Plain
  p = seen x marks

  -- what stands after a served call
  kept-served : (n : ℕ) (y : monitor.MonitorStand) → n ≡ 0 → keep x (choose (eqb n 0) (Ok y.monitor) (Err n)) y.room ≡ y
  kept-served n y e = ap (λ (r : ℕ). keep x (choose (eqb r 0) (Ok y.monitor) (Err r)) y.room) e

  plain-served : (n : ℕ) (q : Plain) → n ≡ 0 → choose (eqb n 0) q p ≡ q
  plain-served n q e = ap (λ (r : ℕ). choose (eqb r 0) q p) e

  pub ring_sent : (s t : ℕ) → refusal_of_sent m (length x.room) t ≡ 0 → (play_ring (sending s t) x).stand ≡ sent_if true m x.room s t
  unfolding play_ring sent_to answered
  ring_sent s t e = kept-served (refusal_of_sent m (length x.room) t) (sent_if true m x.room s t) e

  plain-sent : (s t : ℕ) → refusal_of_sent m (length x.room) t ≡ 0 → (play_plain (sending s t) p).plain ≡ sent p s t
  unfolding play_plain
  plain-sent s t e = plain-served _ (sent p s t) (sym (same-sent_refusal x marks ok t) ∙ e)

  sent-next : (s t : ℕ) → refusal_of_sent m (length x.room) t ≡ 0 → Next (sent_if true m x.room s t) (sent p s t)
  sent-next s t e =
      subst (λ (q : Plain). Next (sent_if true m x.room s t) q) (plain-sent s t e)
      (subst (λ (y : monitor.MonitorStand). Next y (play_plain (sending s t) p).plain) (ring_sent s t e) (agrees x marks ok (sending s t)).1)

  pub ring_reply : (s : ℕ) → refusal_of m (length x.room) ≡ 0 → (play_ring (replying s) x).stand ≡ reply_if true m x.room s
  unfolding play_ring reply_to answered
  ring_reply s e = kept-served (refusal_of m (length x.room)) (reply_if true m x.room s) e

  plain-reply : (s : ℕ) → refusal_of m (length x.room) ≡ 0 → (play_plain (replying s) p).plain ≡ reply p s
  unfolding play_plain
  plain-reply s e = plain-served _ (reply p s) (sym (same-refusal x marks ok) ∙ e)

  reply-next : (s : ℕ) → refusal_of m (length x.room) ≡ 0 → Next (reply_if true m x.room s) (reply p s)
  reply-next s e =
      subst (λ (q : Plain). Next (reply_if true m x.room s) q) (plain-reply s e)
      (subst (λ (y : monitor.MonitorStand). Next y (play_plain (replying s) p).plain) (ring_reply s e) (agrees x marks ok (replying s)).1)

  pub ring_advance : (t : ℕ) → refusal_of m (length x.room) ≡ 0 → (play_ring (advancing t) x).stand ≡ advance_if true m x.room t
  unfolding play_ring advance_to answered
  ring_advance t e = kept-served (refusal_of m (length x.room)) (advance_if true m x.room t) e

  plain-advance : (t : ℕ) → refusal_of m (length x.room) ≡ 0 → (play_plain (advancing t) p).plain ≡ advance p t
  unfolding play_plain
  plain-advance t e = plain-served _ (advance p t) (sym (same-refusal x marks ok) ∙ e)

  advance-next : (t : ℕ) → refusal_of m (length x.room) ≡ 0 → Next (advance_if true m x.room t) (advance p t)
  advance-next t e =
      subst (λ (q : Plain). Next (advance_if true m x.room t) q) (plain-advance t e)
      (subst (λ (y : monitor.MonitorStand). Next y (play_plain (advancing t) p).plain) (ring_advance t e) (agrees x marks ok (advancing t)).1)

  pub ring_idle : refusal_of m capacity ≡ 0 → (play_ring idling x).stand ≡ record { monitor = idle_on m; room = x.room }
  unfolding play_ring idle_to
  ring_idle e = kept-served (refusal_of m capacity) (record { monitor = idle_on m; room = x.room }) e

  plain-idle : refusal_of m capacity ≡ 0 → (play_plain idling p).plain ≡ idle p
  unfolding play_plain
  plain-idle e = plain-served _ (idle p) (sym (same-refusal x marks ok) ∙ ap (refusal_of m) ok.long ∙ e)

  idle-next : refusal_of m capacity ≡ 0 → Next (record { monitor = idle_on m; room = x.room }) (idle p)
  idle-next e =
      subst (λ (q : Plain). Next (record { monitor = idle_on m; room = x.room }) q) (plain-idle e)
      (subst (λ (y : monitor.MonitorStand). Next y (play_plain idling p).plain) (ring_idle e) (agrees x marks ok idling).1)

-- ---- the monitor of a link

-- the plain monitor is shown, and all that keeps it so
abbrev pub WatchFollows : Watching → List Call → Option Monitor → List QueuedProbe → Type 0
WatchFollows alone h None queue = Unit
WatchFollows alone h (Some m) queue = ⊥
WatchFollows (watching threshold timeout) h None queue = ⊥
WatchFollows (watching threshold timeout) h (Some m) queue = Next (record { monitor = m; room = queue }) (monitor_from threshold timeout h)

pub watch_fresh : (v : Watching) (queue : List QueuedProbe) → QueueFits v queue → WatchFollows v [] (fresh_watch v) queue
unfolding monitor_from
watch_fresh alone queue fit = tt
watch_fresh (watching threshold timeout) queue fit = (λ s. false, (refl, begins threshold timeout queue fit))

module _ (h : List Call) where
  pub watch_sent_lem : (v : Watching) (w : Option Monitor) (queue : List QueuedProbe) (s : SentProbe) → watch_refuses_sent w (length queue) s ≡ 0 → WatchFollows v h w queue
      → WatchFollows v (Sent s ∷ h) (watch_sent true w queue s).watch (watch_sent true w queue s).queue
  unfolding monitor_from
  watch_sent_lem alone None queue s e f = tt
  watch_sent_lem alone (Some m) queue s e f = absurd f
  watch_sent_lem (watching threshold timeout) None queue s e f = absurd f
  watch_sent_lem (watching threshold timeout) (Some m) queue s e f =
      subst (λ (q : Plain). Next (sent_if true m queue s.sequence s.packet.time) (sent q s.sequence s.packet.time)) (sym f.1.0)
      (sent-next (record { monitor = m; room = queue }) f.0 f.1.1 s.sequence s.packet.time e)

  -- a unique reply
  watch_unique : (v : Watching) (w : Option Monitor) (queue : List QueuedProbe) (a : Reply) → watch_refuses w (length queue) ≡ 0 → unique? capacity a.key (packet_of a.pending) (events capacity h) ≡ true
      → WatchFollows v h w queue → WatchFollows v (Accept a ∷ h) (watch_reply true w queue a).watch (watch_reply true w queue a).queue
  unfolding monitor_from
  watch_unique alone None queue a e u f = tt
  watch_unique alone (Some m) queue a e u f = absurd f
  watch_unique (watching threshold timeout) None queue a e u f = absurd f
  watch_unique (watching threshold timeout) (Some m) queue a e u f =
      rw u (subst (λ (q : Plain). Next (reply_if true m queue a.key.sender) (reply q a.key.sender)) (sym f.1.0)
      (reply-next (record { monitor = m; room = queue }) f.0 f.1.1 a.key.sender e))

  -- another
  watch_other : (v : Watching) (w : Option Monitor) (queue : List QueuedProbe) (a : Reply) → unique? capacity a.key (packet_of a.pending) (events capacity h) ≡ false
      → WatchFollows v h w queue → WatchFollows v (Accept a ∷ h) w queue
  unfolding monitor_from
  watch_other alone None queue a u f = tt
  watch_other alone (Some m) queue a u f = absurd f
  watch_other (watching threshold timeout) None queue a u f = absurd f
  watch_other (watching threshold timeout) (Some m) queue a u f = rw u f

  -- by the answer of the accept, which is the history's
  pub says_unique : (a : Reply) → is_unique (accepted_from h a) ≡ unique? capacity a.key (packet_of a.pending) (events capacity h)
  unfolding answer
  says_unique a = go (reply_class capacity (events capacity h) a.key (packet_of a.pending))
    where
      go : (x : Class) → is_unique (as_accepted (answer_by capacity x (events capacity h) a.key (packet_of a.pending))) ≡ same_class unique x
      go duplicate = refl
      go unknown = refl
      go unique = refl

  pub watch_accept : (v : Watching) (w : Option Monitor) (queue : List QueuedProbe) (a : Reply) → watch_refuses w (length queue) ≡ 0 → WatchFollows v h w queue
      → WatchFollows v (Accept a ∷ h) (watch_reply (is_unique (accepted_from h a)) w queue a).watch (watch_reply (is_unique (accepted_from h a)) w queue a).queue
  watch_accept v w queue a e f = go (is_unique (accepted_from h a)) refl
    where
      go : (b : Bool) → is_unique (accepted_from h a) ≡ b → WatchFollows v (Accept a ∷ h) (watch_reply b w queue a).watch (watch_reply b w queue a).queue
      go true u = watch_unique v w queue a e (sym (says_unique a) ∙ u) f
      go false u = rw (reply_off w queue a) (watch_other v w queue a (sym (says_unique a) ∙ u) f)

  pub watch_observe : (v : Watching) (w : Option Monitor) (queue : List QueuedProbe) (o : ReplyObservation) → WatchFollows v h w queue → WatchFollows v (Observe o ∷ h) w queue
  unfolding monitor_from
  watch_observe alone None queue o f = tt
  watch_observe alone (Some m) queue o f = absurd f
  watch_observe (watching threshold timeout) None queue o f = absurd f
  watch_observe (watching threshold timeout) (Some m) queue o f = f

  pub watch_advance_lem : (v : Watching) (w : Option Monitor) (queue : List QueuedProbe) (t : ℕ) → watch_refuses w (length queue) ≡ 0 → WatchFollows v h w queue
      → WatchFollows v (Advance t ∷ h) (watch_advance w queue t).watch (watch_advance w queue t).queue
  unfolding monitor_from
  watch_advance_lem alone None queue t e f = tt
  watch_advance_lem alone (Some m) queue t e f = absurd f
  watch_advance_lem (watching threshold timeout) None queue t e f = absurd f
  watch_advance_lem (watching threshold timeout) (Some m) queue t e f =
      subst (λ (q : Plain). Next (advance_if true m queue t) (advance q t)) (sym f.1.0) (advance-next (record { monitor = m; room = queue }) f.0 f.1.1 t e)

  pub watch_idle_lem : (v : Watching) (w : Option Monitor) (queue : List QueuedProbe) → watch_refuses w capacity ≡ 0 → WatchFollows v h w queue
      → WatchFollows v (Idle ∷ h) (watch_idle w queue).watch (watch_idle w queue).queue
  unfolding monitor_from
  watch_idle_lem alone None queue e f = tt
  watch_idle_lem alone (Some m) queue e f = absurd f
  watch_idle_lem (watching threshold timeout) None queue e f = absurd f
  watch_idle_lem (watching threshold timeout) (Some m) queue e f =
      rw e (subst (λ (q : Plain). Next (record { monitor = idle_on m; room = queue }) (idle q)) (sym f.1.0) (idle-next (record { monitor = m; room = queue }) f.0 f.1.1 e))

-- ---- what is shown

pub watch_shown : (v : Watching) (h : List Call) (w : Option Monitor) (queue : List QueuedProbe) → WatchFollows v h w queue → WatchShows v h w queue
watch_shown alone h None queue f = tt
watch_shown alone h (Some m) queue f = f
watch_shown (watching threshold timeout) h None queue f = f
watch_shown (watching threshold timeout) h (Some m) queue f = record {
  state = record {
    summary = sym (ap (λ (r : Plain). r.summary) f.1.0);
    timeout = sym (ap (λ (r : Plain). r.timeout) f.1.0);
    transmitting = sym (ap (λ (r : Plain). r.transmitting) f.1.0);
    probes = sym (ap (λ (r : Plain). r.probes) f.1.0);
    received = λ s. f.1.1.received s ∙ sym (ap (λ (r : Plain). r.received s) f.1.0);
  };
  deadline_is = same-deadline (record { monitor = m; room = queue }) f.0 f.1.1 ∙ ap (λ (r : Plain). deadline r.probes) (sym f.1.0);
}

-- ---- a call of the link that is served is served by the monitor too

-- the monitor's refusals stand in the table
sent-none : (a : ℕ) (m : Monitor) (room t : ℕ) → earlier a (refusal_of_sent m room t) ≡ 0 → refusal_of_sent m room t ≡ 0
unfolding earlier refusal_of_sent
sent-none a m room t e =
    go (misplaced m room) (passing m t) (counted m.summary) (crowded m) (subst (λ (x : ℕ). earlier x (refusal_of_sent m room t) ≡ 0) (earlier-none a (refusal_of_sent m room t) e) e)
  where
    go : (b c d f : Bool) → earlier 0 (choose b wrong_room (choose c deadline_passes (choose d counts_full (choose f queue_full 0)))) ≡ 0 → choose b wrong_room (choose c deadline_passes (choose d counts_full (choose f queue_full 0))) ≡ 0
    go true c d f z = absurd (omega (arith, z))
    go false true d f z = absurd (omega (arith, z))
    go false false true f z = absurd (omega (arith, z))
    go false false false true z = absurd (omega (arith, z))
    go false false false false z = refl

other_none : (a : ℕ) (m : Monitor) (room : ℕ) → earlier a (refusal_of m room) ≡ 0 → refusal_of m room ≡ 0
unfolding earlier refusal_of
other_none a m room e = go (misplaced m room) (counted m.summary) (subst (λ (x : ℕ). earlier x (refusal_of m room) ≡ 0) (earlier-none a (refusal_of m room) e) e)
  where
    go : (b d : Bool) → earlier 0 (choose b wrong_room (choose d counts_full 0)) ≡ 0 → choose b wrong_room (choose d counts_full 0) ≡ 0
    go true d z = absurd (omega (arith, z))
    go false true z = absurd (omega (arith, z))
    go false false z = refl

pub watch_serves_sent : (a : ℕ) (w : Option Monitor) (room : ℕ) (s : SentProbe) → earlier a (watch_refuses_sent w room s) ≡ 0 → watch_refuses_sent w room s ≡ 0
watch_serves_sent a None room s e = refl
watch_serves_sent a (Some m) room s e = sent-none a m room s.packet.time e

pub watch_serves : (a : ℕ) (w : Option Monitor) (room : ℕ) → earlier a (watch_refuses w room) ≡ 0 → watch_refuses w room ≡ 0
watch_serves a None room e = refl
watch_serves a (Some m) room e = other_none a m room e
