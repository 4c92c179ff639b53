-- Each call of the monitor with its room does as the plain model, where what `Kept` says holds.
-- Assumes nothing.
use Rattle.std.specs.Prelude.{Ok, Err, Some, None}
use mathlib.Core.Path.{◌≡◌, refl, sym, ap, subst, ◌∙◌}
use mathlib.Core.Bool.{Bool, true, false, not, ◌&&◌, ◌||◌}
use mathlib.Core.List.{List, [], ◌∷◌, map}
use Prim.Native.Nat.{ℕ, zero, suc, ◌+◌, ◌%◌, ◌≤◌, zero-le, ◌-◌}
use native.Mathlib.Nat.{add-zero, mod-eq_of_lt}
use native.Mathlib.Omega.{arith}
use lib.ListN.{length, get_or}
use lib.Dec.{eqb, leb, ltb}
use borrow.Author.Tests.{eq-eqb, ne_eqb, lt-leb, le-ltb, eqb-true, ltb-true}
use Rattle.limits.specs.Limits.{capacity}
use Rattle.limits.specs.Refusals.{wrong_room, deadline_passes, counts_full, queue_full}
use Rattle.probe_queue.specs.declared.QueuedProbe.{QueuedProbe}
use Rattle.probe_queue.specs.declared.Rule.TheVariants.{Due, Until}
use Rattle.probe_queue.specs.Queue.{choose, nil, at, tabulate, queued, leading, passes}
use Rattle.monitor.specs.declared.State.TheVariants.{Idle, Active}
use Rattle.monitor.specs.declared.Monitor.{Monitor}
use Rattle.monitor.specs.declared.Summary.{Summary}
use Rattle.monitor.specs.Refusals.{misplaced, counted, passing, refusal_of, refusal_of_sent, served}
use Rattle.monitor.specs.States.{most_losses, same, losing, enters, loses, hears, stops}
use Rattle.monitor.specs.Operations.{MonitorStand, pops, due, queues, starts, sent_on, reply_on, advance_on, idle_on, unchanged, sent_if, reply_if, advance_if}
use Rattle.monitor.specs.Answers.{outcome, answered, sent_to, reply_to, advance_to, idle_to, deadline_of}
use Rattle.monitor.proofs.Served.{serves_sent-none, roomy}
use Rattle.monitor_model.specs.Plain.{Marks, Plain, Left, Advanced, pop_to, hear, reply, sent, start, queue, advance, advance_by, idle, deadline, refusal, sent_refusal}
use Rattle.monitor_model.specs.Playing.{Call, sending, replying, advancing, idling, PlainStep, RingStep, serve, play_plain, take, play_ring, plain_probe_of}
use Rattle.monitor_model.proofs.Lists.{tabulate-length, leading_le}
use Rattle.monitor_model.proofs.Rising.{rises-drop}
use Rattle.monitor_model.proofs.Losses.{loses_one, counts, still_few}
use Rattle.monitor_model.proofs.Popping.{leaves, pops_to, loses_and_leaves, pops-due}
use Rattle.monitor_model.proofs.Standing.{seen, Kept, Next, popped-next, pushed-next}
use Rattle.monitor_model.proofs.Searching.{takes, within, first_there}

-- ---- what a call hands back, by its refusal's number
take_by : (x : MonitorStand) (n : ℕ) (on : MonitorStand) (b : Bool) → eqb n 0 ≡ b
    → take x (record { answer = choose b (Ok (choose b on (unchanged x.monitor x.room)).monitor) (Err n); room = (choose b on (unchanged x.monitor x.room)).room }) ≡ record { number = n; stand = choose b on x }
take_by x n on true e = ap (λ (k : ℕ). record { number = k; stand = on }) (sym (eqb-true n 0 e))
take_by x n on false e = refl

takes_on : (x : MonitorStand) (n : ℕ) (on : MonitorStand) → take x (outcome n (choose (served true n) on (unchanged x.monitor x.room))) ≡ record { number = n; stand = choose (eqb n 0) on x }
unfolding answered
takes_on x n on = take_by x n on (eqb n 0) refl

idle-by : (x : MonitorStand) (n : ℕ) (m : Monitor) (b : Bool) → eqb n 0 ≡ b → take x (record { answer = choose b (Ok m) (Err n); room = x.room }) ≡ record { number = n; stand = choose b (record { monitor = m; room = x.room }) x }
idle-by x n m true e = ap (λ (k : ℕ). record { number = k; stand = record { monitor = m; room = x.room } }) (sym (eqb-true n 0 e))
idle-by x n m false e = refl

both : (a b : Bool) (on off : MonitorStand) → choose (a && b) on off ≡ choose a (choose b on off) off
both true b on off = refl
both false b on off = refl

module _ (x : MonitorStand) (marks : Marks) (kept : Kept x marks) where
  abbrev m : Monitor
  m = x.monitor

  abbrev xs : List QueuedProbe
  xs = queued x.room m.ring

  abbrev p : Plain
  p = seen x marks

  -- ---- the refusals are those of the plain model
  placed_by : (a b c : Bool) → a ≡ true → b ≡ false → c ≡ false → not a || (b || c) ≡ false
  placed_by a b c ea eb ec = ap (λ (t : Bool). not t || (b || c)) ea ∙ ap (λ (t : Bool). t || c) eb ∙ ec

  in_place : misplaced m (length x.room) ≡ false
  in_place = placed_by (eqb (length x.room) capacity) (leb capacity m.ring.head) (ltb capacity m.ring.len) (eq-eqb _ _ kept.long) (lt-leb _ _ kept.held.0) (le-ltb _ _ kept.held.1)

  pub same-refusal : refusal_of m (length x.room) ≡ refusal p
  unfolding refusal_of
  same-refusal = ap (λ (t : Bool). choose t wrong_room (choose (counted m.summary) counts_full 0)) in_place

  probes-length : (ys : List QueuedProbe) → length (map plain_probe_of ys) ≡ length ys
  probes-length [] = refl
  probes-length (y ∷ ys) = ap suc (probes-length ys)

  pub same-sent_refusal : (t : ℕ) → refusal_of_sent m (length x.room) t ≡ sent_refusal p t
  unfolding refusal_of_sent
  same-sent_refusal t =
      ap (λ (u : Bool). choose u wrong_room (choose (passing m t) deadline_passes (choose (counted m.summary) counts_full (choose (ltb 0 m.timeout && leb capacity m.ring.len) queue_full 0)))) in_place
      ∙ ap (λ (n : ℕ). choose (passing m t) deadline_passes (choose (counted m.summary) counts_full (choose (ltb 0 m.timeout && leb capacity n) queue_full 0)))
      (sym (probes-length xs ∙ tabulate-length m.ring.len (at x.room m.ring)))

  -- ---- `deadline`
  front_by : (len : ℕ) → choose (eqb len 0) (Ok None) (Ok (Some (get_or x.room m.ring.head nil).deadline)) ≡ deadline (map plain_probe_of (tabulate len (at x.room m.ring)))
  front_by zero = refl
  front_by (suc n) = ap (λ (t : Bool). choose t (Ok None) (Ok (Some (get_or x.room m.ring.head nil).deadline))) (ne_eqb (suc n) 0 (λ e. omega (arith, e))) ∙ ap (λ (k : ℕ). Ok (Some (get_or x.room k nil).deadline)) (sym (ap (λ (k : ℕ). k % capacity) (add-zero m.ring.head) ∙ mod-eq_of_lt kept.held.0))

  pub same-deadline : deadline_of m x.room ≡ deadline p.probes
  unfolding deadline_of
  same-deadline = ap (λ (t : Bool). choose t (Err wrong_room) (choose (eqb m.ring.len 0) (Ok None) (Ok (Some (get_or x.room m.ring.head nil).deadline)))) in_place ∙ front_by m.ring.len

  -- ---- nothing changes
  pub stays : Next x p
  stays = (marks, (refl, kept))

  serve_or_not : (b : Bool) (on : MonitorStand) (next : Plain) → (b ≡ true → Next on next) → Next (choose b on x) (choose b next p)
  serve_or_not true on next i = i refl
  serve_or_not false on next i = stays

  -- ---- `sent`
  starts-next : Next (record { monitor = starts m; room = x.room }) (start p)
  starts-next = (marks, (refl, record { held = kept.held; long = kept.long; few = kept.few; received = kept.received; rising = kept.rising; last = kept.last }))

  sent-by : (s t : ℕ) (b : Bool) → ltb 0 m.timeout ≡ b → refusal_of_sent m (length x.room) t ≡ 0
      → Next (choose b (queues m x.room s t) (record { monitor = starts m; room = x.room })) (choose b (queue p s t) (start p))
  sent-by s t true e z = pushed-next x marks kept s t (roomy m (ltb-true 0 m.timeout e) (serves_sent-none m (length x.room) t z).1.1.1)
  sent-by s t false e z = starts-next

  sent-next : (s t : ℕ) → refusal_of_sent m (length x.room) t ≡ 0 → Next (sent_on m x.room s t) (sent p s t)
  unfolding sent_on
  sent-next s t z = sent-by s t (ltb 0 m.timeout) refl z

  -- ---- `reply`
  hears_few : (hears m.summary).consecutive_losses ≤ most_losses
  unfolding enters
  hears_few = by (same Active m.summary.state)
    where
      by : (t : Bool) → (choose t (losing 0 m.summary) (enters Active (losing 0 m.summary))).consecutive_losses ≤ most_losses
      by true = omega arith
      by false = omega arith

  abbrev counting : ℕ → ℕ
  counting s = choose (marks s) (suc (leading (passes (Until s)) xs)) 0

  left_by : (s : ℕ) (t : Bool) → marks s ≡ t → choose t (pop_to s (map plain_probe_of xs) marks) (record { probes = map plain_probe_of xs; received = marks }) ≡ leaves (choose t (suc (leading (passes (Until s)) xs)) 0) xs marks
  left_by s true e = pops_to s xs marks (first_there x marks kept s e)
  left_by s false e = refl

  heard-next : (s : ℕ) → Next (reply_on m x.room s) (hear p (choose (marks s) (pop_to s (map plain_probe_of xs) marks) (record { probes = map plain_probe_of xs; received = marks })))
  unfolding reply_on
  heard-next s =
      subst (λ (n : ℕ). Next (pops m x.room n (hears m.summary)) (hear p (choose (marks s) (pop_to s (map plain_probe_of xs) marks) (record { probes = map plain_probe_of xs; received = marks })))) (sym (takes x marks kept s))
      (subst (λ (l : Left). Next (pops m x.room (counting s) (hears m.summary)) (hear p l)) (sym (left_by s (marks s) refl))
      (popped-next x marks kept (counting s) (within x marks kept s) (hears m.summary) hears_few))

  reply-by : (s : ℕ) (b : Bool)
      → Next (choose b (reply_on m x.room s) (unchanged m x.room)) (choose b (hear p (choose (marks s) (pop_to s (map plain_probe_of xs) marks) (record { probes = map plain_probe_of xs; received = marks }))) p)
  reply-by s true = heard-next s
  reply-by s false = stays

  -- ---- `advance`
  due_le : (t : ℕ) → due m x.room t ≤ m.ring.len
  due_le t = subst (λ (k : ℕ). due m x.room t ≤ k) (tabulate-length m.ring.len (at x.room m.ring)) (leading_le (passes (Due t)) xs)

  advance-next : (t : ℕ) → Next (advance_on m x.room t) (advance p t)
  unfolding advance_on
  advance-next t =
      subst (λ (a : Advanced). Next (pops m x.room (due m x.room t) (choose m.transmitting (loses (due m x.room t) m.summary) m.summary)) (advance_by p a)) (sym (pops-due m.transmitting t m.summary xs marks))
      (subst (λ (s : Summary). Next (pops m x.room (due m x.room t) s) (advance_by p (loses_and_leaves m.transmitting (due m x.room t) m.summary xs marks))) (counts m.transmitting (due m x.room t) m.summary kept.few)
      (popped-next x marks kept (due m x.room t) (due_le t) (loses_one m.transmitting (due m x.room t) m.summary) (still_few m.transmitting (due m x.room t) m.summary kept.few)))

  -- ---- `idle`
  stops_few : (stops m.transmitting m.summary).consecutive_losses ≤ most_losses
  unfolding enters
  stops_few = by (same Idle m.summary.state) m.transmitting
    where
      by : (a b : Bool) → (choose a (choose b (record { state = m.summary.state; loss_threshold = m.summary.loss_threshold; consecutive_losses = m.summary.consecutive_losses; active_notifications = m.summary.active_notifications; failed_notifications = m.summary.failed_notifications; idle_notifications = m.summary.idle_notifications + 1 }) m.summary) (enters Idle m.summary)).consecutive_losses ≤ most_losses
      by true true = kept.few
      by true false = kept.few
      by false b = omega arith

  idle-next : Next (record { monitor = idle_on m; room = x.room }) (idle p)
  unfolding idle_on
  idle-next = (λ s. false, (refl, record { held = (kept.held.0, zero-le); long = kept.long; few = stops_few; received = λ s. refl; rising = rises-drop (0 - m.run) [] tt; last = tt }))

  -- ---- any call
  abbrev pub Agrees : Call → Type 0
  Agrees c = ((play_ring c x).number ≡ (play_plain c p).number) × Next (play_ring c x).stand (play_plain c p).plain

  agree : (c : Call) (n : ℕ) (on : MonitorStand) (next : Plain) → play_ring c x ≡ record { number = n; stand = choose (eqb n 0) on x } → play_plain c p ≡ serve n p next → (n ≡ 0 → Next on next) → Agrees c
  agree c n on next er ep i = (
    ap (λ (r : RingStep). r.number) er ∙ sym (ap (λ (q : PlainStep). q.number) ep),
    subst (λ (q : PlainStep). Next (play_ring c x).stand q.plain) (sym ep) (subst (λ (r : RingStep). Next r.stand (choose (eqb n 0) next p)) (sym er) (serve_or_not (eqb n 0) on next (λ e. i (eqb-true n 0 e)))),
  )

  pub agrees : (c : Call) → Agrees c
  unfolding play_ring play_plain sent_to sent_if reply_to reply_if advance_to advance_if idle_to
  agrees (sending s t) =
      agree (sending s t) (refusal_of_sent m (length x.room) t) (sent_on m x.room s t) (sent p s t) (takes_on x (refusal_of_sent m (length x.room) t) (sent_on m x.room s t))
      (ap (λ (n : ℕ). serve n p (sent p s t)) (sym (same-sent_refusal t))) (sent-next s t)
  agrees (replying s) =
      agree (replying s) (refusal_of m (length x.room)) (choose m.transmitting (reply_on m x.room s) (unchanged m x.room)) (reply p s)
      (ap (λ (y : MonitorStand). take x (outcome (refusal_of m (length x.room)) y)) (both (served true (refusal_of m (length x.room))) m.transmitting (reply_on m x.room s) (unchanged m x.room))
      ∙ takes_on x (refusal_of m (length x.room)) (choose m.transmitting (reply_on m x.room s) (unchanged m x.room)))
      (ap (λ (n : ℕ). serve n p (reply p s)) (sym same-refusal)) (λ e. reply-by s m.transmitting)
  agrees (advancing t) =
      agree (advancing t) (refusal_of m (length x.room)) (advance_on m x.room t) (advance p t) (takes_on x (refusal_of m (length x.room)) (advance_on m x.room t))
      (ap (λ (n : ℕ). serve n p (advance p t)) (sym same-refusal)) (λ e. advance-next t)
  agrees idling =
      agree idling (refusal_of m capacity) (record { monitor = idle_on m; room = x.room }) (idle p) (idle-by x (refusal_of m capacity) (idle_on m) (eqb (refusal_of m capacity) 0) refl)
      (ap (λ (n : ℕ). serve n p (idle p)) (sym same-refusal ∙ ap (refusal_of m) kept.long)) (λ e. idle-next)
