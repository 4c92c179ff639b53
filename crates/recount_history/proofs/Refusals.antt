-- Of few calls: a call is served exactly where its mark is not 0. Refusals 3 and 4 do not happen in a log. Assumes nothing.
use Rattle.std.specs.Prelude.{Option, None, Some}
use mathlib.Core.Path.{◌≡◌, refl, sym, ap, ◌∙◌}
use mathlib.Core.Bool.{Bool, true, false, ◌&&◌, cond}
use mathlib.Core.List.{List, [], ◌∷◌}
use Prim.Native.Nat.{ℕ, suc, ◌+◌, ◌^◌, ◌≤◌, ◌<◌}
use native.Mathlib.Omega.{arith}
use lib.Dec.{eqb, leb, ltb}
use lib.ListN.{length}
use borrow.Author.Tests.{lt-leb}
use Rattle.chains.proofs.Tests.{lt_true}
use Rattle.limits.specs.Limits.{capacity, most_calls, count_bound}
use Rattle.limits.specs.Refusals.{deadline_passes, counts_full, queue_full}
use Rattle.call_types.specs.declared.SentProbe.{SentProbe}
use Rattle.call_types.specs.declared.Reply.{Reply}
use Rattle.call_types.specs.declared.ReplyKey.{ReplyKey}
use Rattle.call_types.specs.declared.ReplyObservation.{ReplyObservation}
use Rattle.call_types.specs.declared.Call.{Call}
use Rattle.call_types.specs.declared.Call.TheVariants.{Sent, Accept, Observe, Advance, Idle}
use Rattle.ranges.specs.Ranges.{in_range}
use Rattle.probe_queue.specs.Queue.{choose}
use Rattle.monitor.specs.Refusals.{counted}
use Rattle.monitor_model.specs.Plain.{Plain, refusal, sent_refusal}
use Rattle.history.specs.Counting.{tally, has, present}
use Rattle.history.specs.Given.{packet_of}
use Rattle.history.specs.Ledger.{Event, accepted, has_key, rememberings, awaiting, events, count}
use Rattle.ledger_state.specs.Refusal.{first_refusal}
use Rattle.ledger_steps.specs.Refusals.{earlier}
use Rattle.reply_history.specs.Follows.{awaits_in}
use Rattle.link_steps.specs.Steps.{kept_if}
use Rattle.link_history.specs.Fresh.{Watching, alone, watching}
use Rattle.link_history.specs.Shows.{is_counted, calls_in, awaits_from}
use Rattle.link_history.specs.Monitor.{monitor_from}
use Rattle.link_history.specs.Link.{room_from, ledger_refuses, monitor_refuses, refuses_from}
use Rattle.recount_back.specs.Back.{awaits}
use Rattle.recount_marks.specs.Marks.{probe_mark, reply_mark, observe_mark, call_mark}
use Rattle.recount_history.specs.Settings.{watched_in, Timed}
use Rattle.recount_history.proofs.Weight.{weighs, keeps_timeout}

-- ---- the ledger has room

tally-most : (b : Bool) (n m : ℕ) → n ≤ m → tally b n ≤ suc m
tally-most true n m l = omega arith
tally-most false n m l = omega arith

calls_few : (h : List Call) → calls_in h ≤ length h
unfolding count
calls_few [] = omega arith
calls_few (c ∷ h) = tally-most (is_counted c (events capacity h)) (calls_in h) (length h) (calls_few h)

module _ (h : List Call) (few : length h < capacity) where
  has_room : room_from h ≡ true
  has_room = lt_true (calls_in h) most_calls (omega (arith, calls_few h, few))

  ledger_serves : ledger_refuses h ≡ 0
  ledger_serves = rw has_room

  -- ---- so has the monitor

  module _ (threshold timeout : ℕ) where
    abbrev m : Plain
    m = monitor_from threshold timeout h

    not_counted : counted m.summary ≡ false
    not_counted =
        let w = weighs threshold timeout h in
        rw (lt-leb count_bound m.summary.active_notifications (omega (arith, w, few)), lt-leb count_bound m.summary.failed_notifications (omega (arith, w, few)), lt-leb count_bound m.summary.idle_notifications (omega (arith, w, few)))

    not_full : leb capacity (length m.probes) ≡ false
    not_full = lt-leb capacity (length m.probes) (omega (arith, weighs threshold timeout h, few))

    plain-serves : refusal m ≡ 0
    plain-serves = rw not_counted

    and_false : (b : Bool) → (b && false) ≡ false
    and_false true = refl
    and_false false = refl

    plain-sent : (t : ℕ) → sent_refusal m t ≡ choose (leb (2 ^ 64) (t + timeout)) deadline_passes 0
    plain-sent t =
        ap (λ (x : ℕ). choose (leb (2 ^ 64) (t + x)) deadline_passes (choose (counted m.summary) counts_full (choose (ltb 0 m.timeout && leb capacity (length m.probes)) queue_full 0))) (keeps_timeout threshold timeout h)
        ∙ ap (λ (b : Bool). choose (leb (2 ^ 64) (t + timeout)) deadline_passes (choose b counts_full (choose (ltb 0 m.timeout && leb capacity (length m.probes)) queue_full 0))) not_counted
        ∙ ap (λ (b : Bool). choose (leb (2 ^ 64) (t + timeout)) deadline_passes (choose (ltb 0 m.timeout && b) queue_full 0)) not_full
        ∙ ap (λ (b : Bool). choose (leb (2 ^ 64) (t + timeout)) deadline_passes (choose b queue_full 0)) (and_false (ltb 0 m.timeout))

  monitor_serves : (v : Watching) → monitor_refuses v h ≡ 0
  monitor_serves alone = refl
  monitor_serves (watching threshold timeout) = plain-serves threshold timeout

  -- ---- a call

  -- kept where its mark is not 0
  abbrev kept_by : ℕ → Call → List Call
  kept_by mark c = cond (eqb mark 0) h (c ∷ h)

  zero_none : earlier 0 0 ≡ 0
  unfolding earlier
  zero_none = refl

  sent-late : (b : Bool) (c : Call) → kept_if (earlier 0 (choose b deadline_passes 0)) c h ≡ cond (eqb (cond b 0 1) 0) h (c ∷ h)
  unfolding earlier
  sent-late true c = refl
  sent-late false c = refl

  sent-kept : (v : Watching) (t : ℕ) → Timed v t → (s : SentProbe) → kept_if (refuses_from v h (Sent s)) (Sent s) h ≡ kept_by (probe_mark (watched_in v) t s) (Sent s)
  sent-kept alone t ok s = ap (λ (x : ℕ). kept_if (earlier x 0) (Sent s) h) ledger_serves ∙ sent-late false (Sent s)
  sent-kept (watching threshold timeout) t ok s =
      ap (λ (x : ℕ). kept_if (earlier x (sent_refusal (monitor_from threshold timeout h) s.packet.time)) (Sent s) h) ledger_serves
      ∙ ap (λ (x : ℕ). kept_if (earlier 0 x) (Sent s) h) (plain-sent threshold timeout s.packet.time)
      ∙ ap (λ (x : ℕ). kept_if (earlier 0 (choose (leb (2 ^ 64) (s.packet.time + x)) deadline_passes 0)) (Sent s) h) (sym ok)
      ∙ sent-late (leb (2 ^ 64) (s.packet.time + t)) (Sent s)

  reply-marked : (es : List Event) (a : Reply) → eqb (reply_mark es a) 0 ≡ false
  unfolding reply_mark
  reply-marked es a = go (has_key (accepted es) a.key) (has (rememberings es) a.key.sender) (present (packet_of a.pending))
    where
      go : (d b q : Bool) → eqb (cond d 2 (cond b 4 (cond q 5 3))) 0 ≡ false
      go true b q = refl
      go false true q = refl
      go false false true = refl
      go false false false = refl

  awaits-same : (x : Option ReplyKey) (k : ReplyKey) → awaits_in x k ≡ awaits x k
  awaits-same None k = refl
  awaits-same (Some a) k = refl

  observe-by : (b d : Bool) (c : Call) → kept_if (first_refusal true b true true d true) c h ≡ cond (eqb (cond (b && d) 1 0) 0) h (c ∷ h)
  observe-by true true c = refl
  observe-by true false c = refl
  observe-by false d c = refl

  observe-kept : (o : ReplyObservation) → kept_if (first_refusal true (in_range o) true (room_from h) (awaits_from h o.key) true) (Observe o) h ≡ kept_by (observe_mark (events capacity h) o) (Observe o)
  unfolding observe_mark
  observe-kept o =
      ap (λ (b : Bool). kept_if (first_refusal true (in_range o) true b (awaits_from h o.key) true) (Observe o) h) has_room
      ∙ ap (λ (b : Bool). kept_if (first_refusal true (in_range o) true true b true) (Observe o) h) (awaits-same (awaiting (events capacity h)) o.key)
      ∙ observe-by (in_range o) (awaits (awaiting (events capacity h)) o.key) (Observe o)

  -- THE CALL IS SERVED EXACTLY WHERE ITS MARK IS NOT 0
  pub call_kept : (v : Watching) (t : ℕ) → Timed v t → (c : Call) → kept_if (refuses_from v h c) c h ≡ kept_by (call_mark (watched_in v) t (events capacity h) c) c
  call_kept v t ok (Sent s) = sent-kept v t ok s
  call_kept v t ok (Accept a) =
      ap (λ (x : ℕ). kept_if (earlier x (monitor_refuses v h)) (Accept a) h) ledger_serves
      ∙ ap (λ (x : ℕ). kept_if (earlier 0 x) (Accept a) h) (monitor_serves v)
      ∙ ap (λ (x : ℕ). kept_if x (Accept a) h) zero_none
      ∙ sym (ap (λ (b : Bool). cond b h (Accept a ∷ h)) (reply-marked (events capacity h) a))
  call_kept v t ok (Observe o) = observe-kept o
  call_kept v t ok (Advance x) = ap (λ (n : ℕ). kept_if n (Advance x) h) (monitor_serves v)
  call_kept v t ok Idle = ap (λ (n : ℕ). kept_if n Idle h) (monitor_serves v)
