-- THE MARKS OF A LOG SAY WHICH CALLS ARE SERVED, AND THEIR EVENTS: for every log of fewer than 4,096 records. Assumes nothing.
use Rattle.std.specs.Prelude.{Some, None, Option}
use mathlib.Core.Path.{◌≡◌, refl, sym, ap, ◌∙◌}
use mathlib.Core.Bool.{Bool, true, false, ◌&&◌, cond}
use mathlib.Core.List.{List, ◌∷◌}
use Prim.Native.Nat.{ℕ, zero, suc, ◌≤◌, ◌<◌}
use native.Mathlib.Omega.{arith}
use lib.Dec.{eqb}
use lib.ListN.{length}
use Rattle.limits.specs.Limits.{capacity}
use Rattle.call_types.specs.declared.PendingPacket.{PendingPacket}
use Rattle.call_types.specs.declared.Reply.{Reply}
use Rattle.call_types.specs.declared.Call.{Call}
use Rattle.call_types.specs.declared.Call.TheVariants.{Sent, Accept, Observe, Advance, Idle}
use Rattle.ranges.specs.Ranges.{in_range}
use Rattle.history.specs.Counting.{has, present}
use Rattle.history.specs.Given.{packet_of}
use Rattle.history.specs.Ledger.{Event, accepted, has_key, rememberings, awaiting, held, class_by, reply_class, ready, after_reply, events}
use Rattle.log_whole.specs.Logs.{call_at}
use Rattle.link_steps.specs.Steps.{kept_if}
use Rattle.link_history.specs.Fresh.{Watching}
use Rattle.link_history.specs.Link.{refuses_from, served_from}
use Rattle.report_history.specs.Figures.{call_then, log_calls}
use Rattle.recount_seen.specs.Seen.{reply_by, seen_by, seen_at, grow, events_of}
use Rattle.recount_back.specs.Back.{awaits}
use Rattle.recount_marks.specs.Marks.{late, reply_mark, observe_mark, call_mark, played_mark, Marked}
use Rattle.recount_history.specs.Settings.{watched_in, Timed}
use Rattle.recount_history.proofs.Few.{all_accepted, all_held, accepted_few, remembered_few}
use Rattle.recount_history.proofs.Refusals.{call_kept}

-- ---- a reply adds by its mark what its class adds

module _ (N : ℕ) (es : List Event) (a : Reply) (la : length (accepted es) ≤ N) (lr : length (rememberings es) ≤ N) where
  abbrev p : Option PendingPacket
  p = packet_of a.pending

  by-mark : (d b q : Bool) → has (held N es) a.key.sender ≡ b → present p ≡ q
      → grow (reply_by (cond d 2 (cond b 4 (cond q 5 3))) a) es ≡ after_reply N (class_by d b q) es a.key p
  unfolding after_reply ready
  by-mark true b q e f = refl
  by-mark false true q e f = rw e
  by-mark false false true e f = rw e
  by-mark false false false e f = refl

  pub reply_adds : grow (reply_by (reply_mark es a) a) es ≡ after_reply N (reply_class N es a.key p) es a.key p
  unfolding reply_mark reply_class
  reply_adds =
      by-mark (has_key (accepted es) a.key) (has (rememberings es) a.key.sender) (present p) (all_held N es lr a.key.sender) refl
      ∙ ap (λ (b : Bool). after_reply N (class_by (has_key (accepted es) a.key) b (present p)) es a.key p) (sym (all_held N es lr a.key.sender))
      ∙ ap (λ (ks : List Rattle.call_types.specs.declared.ReplyKey.ReplyKey). after_reply N (class_by (has_key ks a.key) (has (held N es) a.key.sender) (present p)) es a.key p) (sym (all_accepted N es la))

-- ---- a call

module _ (h : List Call) (few : length h < capacity) (watched : Bool) (t : ℕ) where
  abbrev es : List Event
  es = events capacity h

  sent_adds : (b : Bool) (s : Rattle.call_types.specs.declared.SentProbe.SentProbe) → events capacity (cond (eqb (cond b 0 1) 0) h (Sent s ∷ h)) ≡ grow (seen_by (cond b 0 1) (Some (Sent s))) es
  unfolding events
  sent_adds true s = refl
  sent_adds false s = refl

  observe_adds : (b : Bool) (o : Rattle.call_types.specs.declared.ReplyObservation.ReplyObservation) → events capacity (cond (eqb (cond b 1 0) 0) h (Observe o ∷ h)) ≡ grow (seen_by (cond b 1 0) (Some (Observe o))) es
  unfolding events
  observe_adds true o = refl
  observe_adds false o = refl

  accept-kept : (a : Reply) → events capacity (cond (eqb (reply_mark es a) 0) h (Accept a ∷ h)) ≡ events capacity (Accept a ∷ h)
  unfolding reply_mark
  accept-kept a = go (has_key (accepted es) a.key) (has (rememberings es) a.key.sender) (present (packet_of a.pending))
    where
      go : (d b q : Bool) → events capacity (cond (eqb (cond d 2 (cond b 4 (cond q 5 3))) 0) h (Accept a ∷ h)) ≡ events capacity (Accept a ∷ h)
      go true b q = refl
      go false true q = refl
      go false false true = refl
      go false false false = refl

  accept_adds : (a : Reply) → events capacity (Accept a ∷ h) ≡ grow (seen_by (reply_mark es a) (Some (Accept a))) es
  unfolding events
  accept_adds a = sym (reply_adds capacity (events capacity h) a (omega (arith, accepted_few capacity h, few)) (omega (arith, remembered_few capacity h, few)))

  pub call_adds : (c : Call) → events capacity (cond (eqb (call_mark watched t es c) 0) h (c ∷ h)) ≡ grow (seen_by (call_mark watched t es c) (Some c)) es
  unfolding events observe_mark
  call_adds (Sent s) = sent_adds (late watched t s.packet.time) s
  call_adds (Accept a) = accept-kept a ∙ accept_adds a
  call_adds (Observe o) = observe_adds (in_range o && awaits (awaiting es) o.key) o
  call_adds (Advance x) = refl
  call_adds Idle = refl

-- ---- the log

kept-most : (n : ℕ) (c : Call) (h : List Call) (m : ℕ) → length h ≤ m → length (kept_if n c h) ≤ suc m
kept-most zero c h m l = omega arith
kept-most (suc n) c h m l = omega arith

module _ (v : Watching) (t : ℕ) (ok : Timed v t) (log : List ℕ) where
  -- the calls served among the first n records
  abbrev pub served_in : ℕ → List Call
  served_in n = served_from v (log_calls log n)

  pub served_few : (n : ℕ) → length (served_in n) ≤ n
  unfolding served_from log_calls
  served_few zero = omega arith
  served_few (suc n) = go (call_at log n) (served_few n)
    where
      go : (r : Option Call) → length (served_in n) ≤ n → length (served_from v (call_then r (log_calls log n))) ≤ suc n
      go None l = omega arith
      go (Some c) l = kept-most (refuses_from v (served_in n) c) c (served_in n) n l

  one_record : (r : Option Call) (cs : List Call) → length (served_from v cs) < capacity
      → events capacity (served_from v (call_then r cs)) ≡ grow (seen_by (played_mark (watched_in v) t (events capacity (served_from v cs)) r) r) (events capacity (served_from v cs))
  unfolding served_from
  one_record None cs l = refl
  one_record (Some c) cs l = ap (events capacity) (call_kept (served_from v cs) l v t ok c) ∙ call_adds (served_from v cs) l (watched_in v) t c

  module _ (marks : List ℕ) (n : ℕ) (few : n ≤ capacity) (marked : Marked (watched_in v) t log marks n) where
    -- THE THEOREM: what the marks say of the first j records is what the served calls among them call for
    pub marks_say : (j : ℕ) → j ≤ n → events_of log marks j ≡ events capacity (served_in j)
    unfolding events_of seen_at log_calls served_from events
    marks_say zero l = refl
    marks_say (suc j) l =
        let ih : events_of log marks j ≡ events capacity (served_in j) = marks_say j (omega arith) in
        ap (λ (x : ℕ). grow (seen_by x (call_at log j)) (events_of log marks j)) (marked j l)
        ∙ ap (λ (es : List Event). grow (seen_by (played_mark (watched_in v) t es (call_at log j)) (call_at log j)) es) ih
        ∙ sym (one_record (call_at log j) (log_calls log j) (omega (arith, served_few j, few)))
