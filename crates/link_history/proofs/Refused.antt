-- Which call is refused, and with which number, follows from the served calls; and which refusals a link made fresh can meet.
-- Assumes nothing.
use Rattle.std.specs.Prelude.{Option, Some, None}
use Rattle.monitor.specs.declared.Monitor.{Monitor}
use mathlib.Core.Path.{◌≡◌, refl, sym, ap, ◌∙◌}
use mathlib.Core.Bool.{Bool, true, false, ◌&&◌}
use mathlib.Core.List.{List}
use Prim.Native.Nat.{ℕ, zero, suc, ◌+◌, ◌^◌, ◌<◌}
use native.Mathlib.Omega.{arith}
use lib.Dec.{ltb, leb}
use lib.ListN.{length}
use borrow.Author.Tests.{leb-true}
use Rattle.limits.specs.Limits.{capacity, most_calls}
use Rattle.limits.specs.Refusals.{wrong_room, deadline_passes, counts_full, queue_full}
use Rattle.call_types.specs.declared.SentProbe.{SentProbe}
use Rattle.call_types.specs.declared.ReplyObservation.{ReplyObservation}
use Rattle.call_types.specs.declared.Call.{Call}
use Rattle.call_types.specs.declared.Call.TheVariants.{Sent, Accept, Observe, Advance, Idle}
use Rattle.chains.proofs.Tests.{true_not_false}
use Rattle.probe_queue.specs.declared.QueuedProbe.{QueuedProbe}
use Rattle.probe_queue.specs.Queue.{choose}
use Rattle.monitor.specs.Refusals as monitor
use Rattle.monitor_model.specs.Plain.{Plain, refusal, sent_refusal}
use Rattle.monitor_model.proofs.Following.{same-refusal, same-sent_refusal}
use Rattle.ranges.specs.Ranges.{in_range}
use Rattle.history.specs.Ledger.{events}
use Rattle.ledger_state.specs.declared.Counts.{Counts}
use Rattle.ledger_state.specs.declared.Ledger.{Ledger}
use Rattle.ledger_state.specs.Refusal.{first_refusal, counts_fit, room_for_call}
use Rattle.ledger_steps.specs.Refusals.{earlier, awaits_key, refusal_of_sent, refusal_of_accept, refusal_of_observe}
use Rattle.ledger_steps.specs.Sent.{SentOutcome}
use Rattle.ledger_steps.specs.Accept.{AcceptOutcome}
use Rattle.ledger_steps.specs.Observe.{ObserveOutcome}
use Rattle.ledger_steps.specs.Calls.{number, accept_number, sent_by, accept_by, observe_by, sent_to, accept_to, observe_to}
use Rattle.link_steps.specs.Steps.{LinkStand, watch_refuses_sent, watch_refuses, refuses}
use Rattle.link_history.specs.Fresh.{Watching, alone, watching, stand_of}
use Rattle.link_history.specs.Shows.{calls_in, awaits_from}
use Rattle.link_history.specs.Monitor.{monitor_from}
use Rattle.link_history.specs.Link.{room_from, ledger_refuses, monitor_refuses_sent, monitor_refuses, refuses_from, QueueFull}
use Rattle.link_history.proofs.Follows.{Follow}
use Rattle.link_history.proofs.Shows.{both_hold, keys_sized, slots_sized, probes-sized, offsets_sized, links_sized, rings_fit_lem, counts_are, awaits_is}
use Rattle.link_history.proofs.Sums.{EventsIn}
use Rattle.link_history.proofs.Bounds.{calls_decide}
use Rattle.link_history.proofs.Monitor.{WatchFollows}

-- ---- the number of an answer is the refusal's

pub sent-number : (n : ℕ) (o : SentOutcome) (probes links : List (List ℕ)) → number (sent_by n o probes links).answer ≡ n
sent-number zero o probes links = refl
sent-number (suc n) o probes links = refl

pub accept-number : (n : ℕ) (o : AcceptOutcome) (keys slots probes links : List (List ℕ)) → accept_number (accept_by n o keys slots probes links).answer ≡ n
accept-number zero o keys slots probes links = refl
accept-number (suc n) o keys slots probes links = refl

observe-number : (n : ℕ) (o : ObserveOutcome) (slots : List (List ℕ)) (offsets : List ℕ) (links : List (List ℕ)) → number (observe_by n o slots offsets links).answer ≡ n
observe-number zero o slots offsets links = refl
observe-number (suc n) o slots offsets links = refl

-- ---- the monitor's refusals

module _ (v : Watching) (h : List Call) where
  sent-other : (w : Option Monitor) (queue : List QueuedProbe) (s : SentProbe) → WatchFollows v h w queue → watch_refuses_sent w (length queue) s ≡ monitor_refuses_sent v h s.packet.time
  sent-other = by v
    where
      by : (x : Watching) (w : Option Monitor) (queue : List QueuedProbe) (s : SentProbe) → WatchFollows x h w queue → watch_refuses_sent w (length queue) s ≡ monitor_refuses_sent x h s.packet.time
      by alone None queue s f = refl
      by alone (Some m) queue s f = absurd f
      by (watching threshold timeout) None queue s f = absurd f
      by (watching threshold timeout) (Some m) queue s f =
          same-sent_refusal (record { monitor = m; room = queue }) f.0 f.1.1 s.packet.time ∙ ap (λ (p : Plain). sent_refusal p s.packet.time) (sym f.1.0)

  other : (w : Option Monitor) (queue : List QueuedProbe) → WatchFollows v h w queue → watch_refuses w (length queue) ≡ monitor_refuses v h
  other = by v
    where
      by : (x : Watching) (w : Option Monitor) (queue : List QueuedProbe) → WatchFollows x h w queue → watch_refuses w (length queue) ≡ monitor_refuses x h
      by alone None queue f = refl
      by alone (Some m) queue f = absurd f
      by (watching threshold timeout) None queue f = absurd f
      by (watching threshold timeout) (Some m) queue f = same-refusal (record { monitor = m; room = queue }) f.0 f.1.1 ∙ ap refusal (sym f.1.0)

  -- `idle` is lent no room
  idle-other : (w : Option Monitor) (queue : List QueuedProbe) → WatchFollows v h w queue → watch_refuses w capacity ≡ monitor_refuses v h
  idle-other = by v
    where
      by : (x : Watching) (w : Option Monitor) (queue : List QueuedProbe) → WatchFollows x h w queue → watch_refuses w capacity ≡ monitor_refuses x h
      by alone None queue f = refl
      by alone (Some m) queue f = absurd f
      by (watching threshold timeout) None queue f = absurd f
      by (watching threshold timeout) (Some m) queue f =
          ap (monitor.refusal_of m) (sym f.1.1.long) ∙ same-refusal (record { monitor = m; room = queue }) f.0 f.1.1 ∙ ap refusal (sym f.1.0)

-- ---- the calls

module _ (v : Watching) (words : List ℕ) (copies : ℕ) (copies_in : copies < 2 ^ 16) (h : List Call) (fit : EventsIn (events capacity h)) (k : LinkStand)
    (f : Follow words copies h (stand_of k)) (g : WatchFollows v h k.link.watch k.queue) where
  abbrev l : Ledger
  l = k.link.ledger

  room_is : room_for_call l ≡ room_from h
  room_is =
      ap (λ (n : ℕ). ltb n most_calls && counts_fit l.counts) f.calls_are ∙ ap (λ (c : Counts). ltb (calls_in h) most_calls && counts_fit c) (counts_are words copies h k f)
      ∙ calls_decide copies copies_in h fit

  -- rooms and rings in place
  by_room : (placed : Bool) → placed ≡ true → first_refusal placed true true (room_for_call l) true true ≡ ledger_refuses h
  by_room placed e = ap (λ (b : Bool). first_refusal b true true (room_for_call l) true true) e ∙ ap (λ (b : Bool). first_refusal true true true b true true) room_is

  pub sent-refusal : (n : ℕ) → refusal_of_sent n l (length k.rooms.probes) (length k.rooms.links) ≡ earlier (ledger_refuses h) n
  unfolding refusal_of_sent
  sent-refusal n =
      ap (λ (r : ℕ). earlier r n)
      (by_room _ (both_hold _ _ (both_hold _ _ (probes-sized words copies h k f) (links_sized words copies h k f)) (rings_fit_lem words copies h k f)))

  pub accept-refusal : (n : ℕ) → refusal_of_accept n l (length k.rooms.keys) (length k.rooms.slots) (length k.rooms.probes) (length k.rooms.links) ≡ earlier (ledger_refuses h) n
  unfolding refusal_of_accept
  accept-refusal n =
      ap (λ (r : ℕ). earlier r n)
      (by_room _ (both_hold _ _ (both_hold _ _ (both_hold _ _ (both_hold _ _ (keys_sized words copies h k f) (slots_sized words copies h k f)) (probes-sized words copies h k f))
      (links_sized words copies h k f)) (rings_fit_lem words copies h k f)))

  observe-refusal : (o : ReplyObservation) → refusal_of_observe l k.rooms.keys (length k.rooms.slots) (length k.rooms.offsets) (length k.rooms.links) o
      ≡ first_refusal true (in_range o) true (room_from h) (awaits_from h o.key) true
  unfolding refusal_of_observe
  observe-refusal o =
      ap (λ (b : Bool). first_refusal b (in_range o) true (room_for_call l) (awaits_key l k.rooms.keys o.key) true)
      (both_hold _ _ (both_hold _ _ (both_hold _ _ (both_hold _ _ (keys_sized words copies h k f) (slots_sized words copies h k f)) (offsets_sized words copies h k f))
      (links_sized words copies h k f)) (rings_fit_lem words copies h k f))
      ∙ ap (λ (b : Bool). first_refusal true (in_range o) true b (awaits_key l k.rooms.keys o.key) true) room_is
      ∙ ap (λ (b : Bool). first_refusal true (in_range o) true (room_from h) b true) (awaits_is words copies h k f o.key)

  pub refuses_is : (c : Call) → refuses k c ≡ refuses_from v h c
  unfolding refuses sent_to accept_to observe_to
  refuses_is (Sent s) =
      sent-number _ _ k.rooms.probes k.rooms.links ∙ sent-refusal (watch_refuses_sent k.link.watch (length k.queue) s)
      ∙ ap (earlier (ledger_refuses h)) (sent-other v h k.link.watch k.queue s g)
  refuses_is (Accept a) =
      accept-number _ _ k.rooms.keys k.rooms.slots k.rooms.probes k.rooms.links ∙ accept-refusal (watch_refuses k.link.watch (length k.queue))
      ∙ ap (earlier (ledger_refuses h)) (other v h k.link.watch k.queue g)
  refuses_is (Observe o) = observe-number _ _ k.rooms.slots k.rooms.offsets k.rooms.links ∙ observe-refusal o
  refuses_is (Advance t) = other v h k.link.watch k.queue g
  refuses_is Idle = idle-other v h k.link.watch k.queue g

-- ---- which refusals there are

-- never 5
no_five : (b p q r : Bool) → earlier (first_refusal true true true b true true) (choose p deadline_passes (choose q counts_full (choose r queue_full 0))) ≡ wrong_room → ⊥
unfolding earlier
no_five true true q r e = omega (arith, e)
no_five true false true r e = omega (arith, e)
no_five true false false true e = omega (arith, e)
no_five true false false false e = omega (arith, e)
no_five false true q r e = omega (arith, e)
no_five false false true r e = omega (arith, e)
no_five false false false true e = omega (arith, e)
no_five false false false false e = omega (arith, e)

-- 3 by the queue alone
only_three : (b p q r : Bool) → earlier (first_refusal true true true b true true) (choose p deadline_passes (choose q counts_full (choose r queue_full 0))) ≡ queue_full → r ≡ true
unfolding earlier
only_three true true q r e = absurd (omega (arith, e))
only_three true false true r e = absurd (omega (arith, e))
only_three true false false true e = refl
only_three true false false false e = absurd (omega (arith, e))
only_three false true q r e = absurd (omega (arith, e))
only_three false false true r e = absurd (omega (arith, e))
only_three false false false true e = refl
only_three false false false false e = absurd (omega (arith, e))

observe_five : (a b c : Bool) → first_refusal true a true b c true ≡ wrong_room → ⊥
observe_five false b c e = omega (arith, e)
observe_five true false c e = omega (arith, e)
observe_five true true false e = omega (arith, e)
observe_five true true true e = omega (arith, e)

observe_three : (a b c : Bool) → first_refusal true a true b c true ≡ queue_full → ⊥
observe_three false b c e = omega (arith, e)
observe_three true false c e = omega (arith, e)
observe_three true true false e = omega (arith, e)
observe_three true true true e = omega (arith, e)

counted_five : (q : Bool) → choose q counts_full 0 ≡ wrong_room → ⊥
counted_five true e = omega (arith, e)
counted_five false e = omega (arith, e)

counted_three : (q : Bool) → choose q counts_full 0 ≡ queue_full → ⊥
counted_three true e = omega (arith, e)
counted_three false e = omega (arith, e)

module _ (v : Watching) (h : List Call) where
  pub from_five : (c : Call) → refuses_from v h c ≡ wrong_room → ⊥
  from_five = by v
    where
      by : (x : Watching) (c : Call) → refuses_from x h c ≡ wrong_room → ⊥
      by alone (Sent s) e = no_five (room_from h) false false false e
      by alone (Accept a) e = no_five (room_from h) false false false e
      by alone (Advance t) e = counted_five false e
      by alone Idle e = counted_five false e
      by alone (Observe o) e = observe_five (in_range o) (room_from h) (awaits_from h o.key) e
      by (watching threshold timeout) (Sent s) e =
          no_five (room_from h) (leb (2 ^ 64) (s.packet.time + (monitor_from threshold timeout h).timeout)) (monitor.counted (monitor_from threshold timeout h).summary)
          (ltb 0 (monitor_from threshold timeout h).timeout && leb capacity (length (monitor_from threshold timeout h).probes)) e
      by (watching threshold timeout) (Accept a) e = no_five (room_from h) false (monitor.counted (monitor_from threshold timeout h).summary) false e
      by (watching threshold timeout) (Observe o) e = observe_five (in_range o) (room_from h) (awaits_from h o.key) e
      by (watching threshold timeout) (Advance t) e = counted_five (monitor.counted (monitor_from threshold timeout h).summary) e
      by (watching threshold timeout) Idle e = counted_five (monitor.counted (monitor_from threshold timeout h).summary) e

  pub three_full : (c : Call) → refuses_from v h c ≡ queue_full → QueueFull v h
  three_full = by v
    where
      second : (a b : Bool) → (a && b) ≡ true → b ≡ true
      second true b e = e
      second false b e = absurd (true_not_false e refl)

      by : (x : Watching) (c : Call) → refuses_from x h c ≡ queue_full → QueueFull x h
      by alone (Sent s) e = absurd (true_not_false (only_three (room_from h) false false false e) refl)
      by alone (Accept a) e = absurd (true_not_false (only_three (room_from h) false false false e) refl)
      by alone (Observe o) e = absurd (observe_three (in_range o) (room_from h) (awaits_from h o.key) e)
      by alone (Advance t) e = absurd (counted_three false e)
      by alone Idle e = absurd (counted_three false e)
      by (watching threshold timeout) (Sent s) e =
          leb-true capacity (length (monitor_from threshold timeout h).probes)
          (second (ltb 0 (monitor_from threshold timeout h).timeout) (leb capacity (length (monitor_from threshold timeout h).probes))
          (only_three (room_from h) (leb (2 ^ 64) (s.packet.time + (monitor_from threshold timeout h).timeout)) (monitor.counted (monitor_from threshold timeout h).summary)
          (ltb 0 (monitor_from threshold timeout h).timeout && leb capacity (length (monitor_from threshold timeout h).probes)) e))
      by (watching threshold timeout) (Accept a) e = absurd (true_not_false (only_three (room_from h) false (monitor.counted (monitor_from threshold timeout h).summary) false e) refl)
      by (watching threshold timeout) (Observe o) e = absurd (observe_three (in_range o) (room_from h) (awaits_from h o.key) e)
      by (watching threshold timeout) (Advance t) e = absurd (counted_three (monitor.counted (monitor_from threshold timeout h).summary) e)
      by (watching threshold timeout) Idle e = absurd (counted_three (monitor.counted (monitor_from threshold timeout h).summary) e)
