-- The monitor without refusals is the plain model of crate monitor_model, where every call of the list was served. Assumes nothing.
use mathlib.Core.Path.{◌≡◌, refl, sym, ap, ◌∙◌}
use mathlib.Core.Bool.{Bool, true, false}
use mathlib.Core.List.{List, [], ◌∷◌, ◌++◌, map}
use Prim.Native.Nat.{ℕ, ◌+◌}
use lib.Dec.{eqb, leb, ltb}
use borrow.Author.Tests.{eq-eqb}
use Rattle.probe_queue.specs.Queue.{choose}
use Rattle.monitor.specs.declared.State.{State}
use Rattle.monitor.specs.declared.State.TheVariants.{Idle, Active, Failed}
use Rattle.monitor.specs.declared.Summary.{Summary}
use Rattle.monitor.specs.States.{most_losses, same, losing, enters, transition}
use Rattle.monitor.specs.States as states
use Rattle.monitor_model.specs.Plain.{Sent, Marks, Plain, Left, Advanced, insert, remove, sent, pop_to, reply, lose, advancing, advance, idle}
use Rattle.monitor_model.specs.Playing.{Call, sending, replying, idling, play_plain}
use Rattle.monitor_model.specs.Playing as playing
use Rattle.link_mixed_history.specs.Shows.{plain_from}
use Rattle.host_monitor_words.specs.Words.{state_number}
use Rattle.host_plain_history.specs.Monitor.{Waiting, Watch, in_state, holding, marking, sends, taken_to, hears, loses, gives_up, stops, watch_after}

-- ---- the plain model as a watch

-- a probe that waits
abbrev pub waiting : Sent → Waiting
waiting p = record { sequence = p.sequence; deadline = p.deadline }

-- the record above, made of its parts in their order
abbrev watch_of : Summary → ℕ → Bool → List Sent → Marks → Watch
watch_of s timeout transmitting probes received = record {
  state = state_number s.state;
  threshold = s.loss_threshold;
  losses = s.consecutive_losses;
  actives = s.active_notifications;
  faileds = s.failed_notifications;
  idles = s.idle_notifications;
  timeout = timeout;
  transmitting = transmitting;
  waiting = map waiting probes;
  marked = received;
}

-- the whole
abbrev pub as_watch : Plain → Watch
as_watch p = watch_of p.summary p.timeout p.transmitting p.probes p.received

-- a summary of these parts
abbrev summary : State → (threshold losses actives faileds idles : ℕ) → Summary
summary st threshold losses a f i = record { state = st; loss_threshold = threshold; consecutive_losses = losses; active_notifications = a; failed_notifications = f; idle_notifications = i }

module _ (timeout : ℕ) (transmitting : Bool) (probes : List Sent) (received : Marks) where
  abbrev with : Summary → Watch
  with s = watch_of s timeout transmitting probes received

  -- ---- states

  active_by : (st : State) (th l a f i : ℕ) → in_state 1 0 (with (summary st th l a f i)) ≡ with (transition Active (losing 0 (summary st th l a f i)))
  unfolding same enters
  active_by Idle th l a f i = refl
  active_by Active th l a f i = refl
  active_by Failed th l a f i = refl

  pub active_is : (s : Summary) → in_state 1 0 (with s) ≡ with (transition Active (losing 0 s))
  active_is s = active_by s.state s.loss_threshold s.consecutive_losses s.active_notifications s.failed_notifications s.idle_notifications

  failed-by : (st : State) (th l a f i n : ℕ) (b : Bool)
      → choose b (in_state 2 n (with (summary st th l a f i))) (in_state (state_number st) n (with (summary st th l a f i)))
      ≡ with (choose b (transition Failed (losing n (summary st th l a f i))) (losing n (summary st th l a f i)))
  unfolding same enters
  failed-by Idle th l a f i n true = refl
  failed-by Active th l a f i n true = refl
  failed-by Failed th l a f i n true = refl
  failed-by Idle th l a f i n false = refl
  failed-by Active th l a f i n false = refl
  failed-by Failed th l a f i n false = refl

loses-by : (s : Summary) (timeout : ℕ) (transmitting : Bool) (probes : List Sent) (received : Marks)
    → loses (watch_of s timeout transmitting probes received) ≡ watch_of (lose transmitting s) timeout transmitting probes received
loses-by s timeout false probes received = refl
loses-by s timeout true probes received =
    let n = choose (ltb s.consecutive_losses most_losses) (s.consecutive_losses + 1) most_losses in
    failed-by timeout true probes received s.state s.loss_threshold s.consecutive_losses s.active_notifications s.failed_notifications s.idle_notifications n
    (leb s.loss_threshold n)

idle-by : (st : State) (th l a f i timeout : ℕ) (transmitting : Bool) (probes : List Sent) (received : Marks)
    → stops (watch_of (summary st th l a f i) timeout transmitting probes received) ≡ watch_of (states.stops transmitting (summary st th l a f i)) timeout false [] (λ s. false)
unfolding same enters
idle-by Idle th l a f i timeout true probes received = refl
idle-by Idle th l a f i timeout false probes received = refl
idle-by Active th l a f i timeout true probes received = refl
idle-by Active th l a f i timeout false probes received = refl
idle-by Failed th l a f i timeout true probes received = refl
idle-by Failed th l a f i timeout false probes received = refl

-- ---- probes that wait

map_end : (ps : List Sent) (p : Sent) → map waiting (ps ++ (p ∷ [])) ≡ map waiting ps ++ (waiting p ∷ [])
map_end [] p = refl
map_end (q ∷ ps) p = ap (λ (xs : List Waiting). waiting q ∷ xs) (map_end ps p)

taken_to_lem : (s : ℕ) (sm : Summary) (timeout : ℕ) (transmitting : Bool) (ps : List Sent) (marks : Marks)
    → taken_to s (map waiting ps) (watch_of sm timeout transmitting ps marks) ≡ watch_of sm timeout transmitting (pop_to s ps marks).probes (pop_to s ps marks).received
unfolding marking remove
taken_to_lem s sm timeout transmitting [] marks = refl
taken_to_lem s sm timeout transmitting (p ∷ ps) marks = go (eqb p.sequence s) (taken_to_lem s sm timeout transmitting ps (remove p.sequence marks))
  where
    after : Watch
    after = watch_of sm timeout transmitting ps (remove p.sequence marks)

    stop : Left
    stop = record { probes = ps; received = remove p.sequence marks }

    on : Left
    on = pop_to s ps (remove p.sequence marks)

    go : (b : Bool) → taken_to s (map waiting ps) after ≡ watch_of sm timeout transmitting on.probes on.received
        → choose b after (taken_to s (map waiting ps) after) ≡ watch_of sm timeout transmitting (choose b stop on).probes (choose b stop on).received
    go true e = refl
    go false e = e

gives_up_lem : (t timeout : ℕ) (transmitting : Bool) (sm : Summary) (ps : List Sent) (marks : Marks)
    → gives_up t (map waiting ps) (watch_of sm timeout transmitting ps marks)
    ≡ watch_of (advancing transmitting t sm ps marks).summary timeout transmitting (advancing transmitting t sm ps marks).probes (advancing transmitting t sm ps marks).received
unfolding marking remove
gives_up_lem t timeout transmitting sm [] marks = refl
gives_up_lem t timeout transmitting sm (p ∷ ps) marks =
    go (leb p.deadline t) (ap (gives_up t (map waiting ps)) (loses-by sm timeout transmitting ps (remove p.sequence marks)) ∙ gives_up_lem t timeout transmitting (lose transmitting sm) ps (remove p.sequence marks))
  where
    on : Advanced
    on = advancing transmitting t (lose transmitting sm) ps (remove p.sequence marks)

    stop : Advanced
    stop = record { summary = sm; probes = p ∷ ps; received = marks }

    gone : Watch
    gone = gives_up t (map waiting ps) (loses (watch_of sm timeout transmitting ps (remove p.sequence marks)))

    go : (b : Bool) → gone ≡ watch_of on.summary timeout transmitting on.probes on.received
        → choose b gone (watch_of sm timeout transmitting (p ∷ ps) marks) ≡ watch_of (choose b on stop).summary timeout transmitting (choose b on stop).probes (choose b on stop).received
    go true e = e
    go false e = refl

-- ---- each call

sent_is : (p : Plain) (s t : ℕ) → sends s t (as_watch p) ≡ as_watch (sent p s t)
unfolding marking insert
sent_is p s t = go (ltb 0 p.timeout)
  where
    x : Sent
    x = record { sequence = s; deadline = t + p.timeout }

    go : (b : Bool) → choose b (holding true (map waiting p.probes ++ (waiting x ∷ [])) (marking true s p.received) (as_watch p)) (holding true (map waiting p.probes) p.received (as_watch p))
        ≡ as_watch (choose b (record { summary = p.summary; timeout = p.timeout; transmitting = true; probes = p.probes ++ (x ∷ []); received = insert s p.received })
        (record { summary = p.summary; timeout = p.timeout; transmitting = true; probes = p.probes; received = p.received }))
    go true = ap (λ (ps : List Waiting). holding true ps (marking true s p.received) (as_watch p)) (sym (map_end p.probes x))
    go false = refl

reply_is : (p : Plain) (s : ℕ) → hears s (as_watch p) ≡ as_watch (reply p s)
reply_is p s = go p.transmitting (p.received s)
  where
    popped : Left
    popped = pop_to s p.probes p.received

    kept : Left
    kept = record { probes = p.probes; received = p.received }

    heard : (l : Left) → in_state 1 0 (watch_of p.summary p.timeout p.transmitting l.probes l.received)
        ≡ watch_of (transition Active (losing 0 p.summary)) p.timeout p.transmitting l.probes l.received
    heard l = active_is p.timeout p.transmitting l.probes l.received p.summary

    marked : (b : Bool) → in_state 1 0 (choose b (taken_to s (map waiting p.probes) (as_watch p)) (as_watch p))
        ≡ watch_of (transition Active (losing 0 p.summary)) p.timeout p.transmitting (choose b popped kept).probes (choose b popped kept).received
    marked true = ap (in_state 1 0) (taken_to_lem s p.summary p.timeout p.transmitting p.probes p.received) ∙ heard popped
    marked false = heard kept

    hearing : Bool → Plain
    hearing m = record { summary = transition Active (losing 0 p.summary); timeout = p.timeout; transmitting = p.transmitting; probes = (choose m popped kept).probes; received = (choose m popped kept).received }

    go : (t m : Bool) → choose t (in_state 1 0 (choose m (taken_to s (map waiting p.probes) (as_watch p)) (as_watch p))) (as_watch p) ≡ as_watch (choose t (hearing m) p)
    go true m = marked m
    go false m = refl

advance_is : (p : Plain) (t : ℕ) → gives_up t (map waiting p.probes) (as_watch p) ≡ as_watch (advance p t)
advance_is p t = gives_up_lem t p.timeout p.transmitting p.summary p.probes p.received

idle_is : (p : Plain) → stops (as_watch p) ≡ as_watch (idle p)
idle_is p =
    idle-by p.summary.state p.summary.loss_threshold p.summary.consecutive_losses p.summary.active_notifications p.summary.failed_notifications p.summary.idle_notifications
    p.timeout p.transmitting p.probes p.received

-- ---- all calls

-- none of them is refused by the plain model
abbrev pub AllServed : (threshold timeout : ℕ) → List Call → Type 0
AllServed threshold timeout [] = Unit {0}
AllServed threshold timeout (c ∷ cs) = ((play_plain c (plain_from threshold timeout cs)).number ≡ 0) × AllServed threshold timeout cs

serve_is : (n : ℕ) (before after : Plain) → n ≡ 0 → after ≡ choose (eqb n 0) after before
serve_is n before after e = ap (λ (b : Bool). choose b after before) (sym (eq-eqb n 0 e))

pub watch_is : (threshold timeout : ℕ) (cs : List Call) → AllServed threshold timeout cs → watch_after threshold timeout cs ≡ as_watch (plain_from threshold timeout cs)
unfolding watch_after plain_from play_plain
watch_is threshold timeout [] h = refl
watch_is threshold timeout (sending s t ∷ cs) h =
    ap (sends s t) (watch_is threshold timeout cs h.1) ∙ sent_is (plain_from threshold timeout cs) s t ∙ ap as_watch (serve_is _ _ _ h.0)
watch_is threshold timeout (replying s ∷ cs) h =
    ap (hears s) (watch_is threshold timeout cs h.1) ∙ reply_is (plain_from threshold timeout cs) s ∙ ap as_watch (serve_is _ _ _ h.0)
watch_is threshold timeout (playing.advancing t ∷ cs) h =
    ap (λ (w : Watch). gives_up t w.waiting w) (watch_is threshold timeout cs h.1) ∙ advance_is (plain_from threshold timeout cs) t ∙ ap as_watch (serve_is _ _ _ h.0)
watch_is threshold timeout (idling ∷ cs) h =
    ap stops (watch_is threshold timeout cs h.1) ∙ idle_is (plain_from threshold timeout cs) ∙ ap as_watch (serve_is _ _ _ h.0)
