-- EACH COUNT OF REPLIES OF A MARKED LOG IS WHAT ITS SERVED CALLS CALL FOR. Assumes nothing.
use Rattle.std.specs.Prelude.{Some, None, Option}
use mathlib.Core.Path.{◌≡◌, refl, sym, ap, ◌∙◌}
use mathlib.Core.Bool.{Bool, true, false, not, ◌&&◌, cond}
use mathlib.Core.List.{List, ◌∷◌}
use Prim.Native.Nat.{ℕ, zero, suc, ◌≤◌, ◌<◌}
use native.Mathlib.Omega.{arith}
use lib.Dec.{eqb, ltb}
use lib.ListN.{length, get_or}
use Rattle.limits.specs.Limits.{capacity}
use Rattle.reply_history.proofs.Lists.{eqb_same}
use Rattle.call_types.specs.declared.PendingPacket.{PendingPacket}
use Rattle.call_types.specs.declared.SentProbe.{SentProbe}
use Rattle.call_types.specs.declared.Reply.{Reply}
use Rattle.call_types.specs.declared.ReplyKey.{ReplyKey}
use Rattle.call_types.specs.declared.ReplyObservation.{ReplyObservation}
use Rattle.call_types.specs.declared.Call.{Call}
use Rattle.call_types.specs.declared.Call.TheVariants.{Sent, Accept, Observe, Advance, Idle}
use Rattle.ranges.specs.Ranges.{in_range}
use Rattle.history.specs.Counting.{tally, has, present}
use Rattle.history.specs.Given.{packet_of}
use Rattle.history.specs.Ledger.{Event, accepted, has_key, rememberings, awaiting, replies, Class, duplicate, unknown, unique, same_class, held, class_by, reply_class, ready, unique?, before, CallTest, is_sent, is_class, is_answered, is_additional, is_late, is_satisfying, is_independent, is_reordered, behind, highest_reflector, events, count}
use Rattle.log_whole.specs.Logs.{call_at}
use Rattle.link_history.specs.Fresh.{Watching}
use Rattle.link_history.specs.Link.{served_from}
use Rattle.report_history.specs.Figures.{call_then, log_calls}
use Rattle.recount_seen.specs.declared.Seen.{Seen}
use Rattle.recount_seen.specs.declared.Seen.TheVariants.{Nothing, Probe, Duplicate, Unknown, Known, First, Observed}
use Rattle.recount_seen.specs.Seen.{reply_by, seen_by, seen_at, events_of}
use Rattle.recount_back.specs.Back.{awaits}
use Rattle.recount_marks.specs.Marks.{late, reply_mark, observe_mark, call_mark, played_mark, Marked}
use Rattle.recount_counts.specs.Tests.{absent, unique_at, test_by, passing}
use Rattle.recount_history.specs.Settings.{watched_in, Timed}
use Rattle.recount_history.proofs.Few.{all_accepted, all_held, accepted_few, remembered_few}
use Rattle.recount_history.proofs.Refusals.{call_kept}
use Rattle.recount_history.proofs.Marked.{served_in, served_few, marks_say}

-- ---- a test of marked records agrees with a test of calls: at every call with few served before it

-- where the mark is 0 the record is seen as nothing, and passes no test
abbrev pub Agree : Bool → ℕ → (Seen → List Event → Bool) → CallTest → Type 0
Agree watched t f test = (h : List Call) → length h < capacity → (c : Call) →
    tally (f (seen_by (call_mark watched t (events capacity h) c) (Some c)) (events capacity h)) (count capacity test h)
    ≡ count capacity test (cond (eqb (call_mark watched t (events capacity h) c) 0) h (c ∷ h))

module _ (v : Watching) (t : ℕ) (ok : Timed v t) (log marks : List ℕ) (n : ℕ) (few : n ≤ capacity) (marked : Marked (watched_in v) t log marks n) where
  module _ (f : Seen → List Event → Bool) (None-passes : (es : List Event) → f Nothing es ≡ false) (test : CallTest) (agree : Agree (watched_in v) t f test) where
    one_more : (r : Option Call) (cs : List Call) → length (served_from v cs) < capacity
        → tally (f (seen_by (played_mark (watched_in v) t (events capacity (served_from v cs)) r) r) (events capacity (served_from v cs))) (count capacity test (served_from v cs))
        ≡ count capacity test (served_from v (call_then r cs))
    unfolding served_from
    one_more None cs l = rw (None-passes (events capacity (served_from v cs)))
    one_more (Some c) cs l = agree (served_from v cs) l c ∙ sym (ap (count capacity test) (call_kept (served_from v cs) l v t ok c))

    -- THE COUNT
    pub count_says : (j : ℕ) → j ≤ n → passing f log marks j ≡ count capacity test (served_in v t ok log j)
    unfolding passing count log_calls served_from seen_at
    count_says zero l = refl
    count_says (suc j) l =
        let e : events_of log marks j ≡ events capacity (served_in v t ok log j) = marks_say v t ok log marks n few marked j (omega arith) in
        ap (tally (f (seen_by (get_or marks j 0) (call_at log j)) (events_of log marks j))) (count_says j (omega arith))
        ∙ ap (λ (m : ℕ). tally (f (seen_by m (call_at log j)) (events_of log marks j)) (count capacity test (served_in v t ok log j))) (marked j l)
        ∙ ap (λ (es : List Event). tally (f (seen_by (played_mark (watched_in v) t es (call_at log j)) (call_at log j)) es) (count capacity test (served_in v t ok log j))) e
        ∙ one_more (call_at log j) (log_calls log j) (omega (arith, served_few v t ok log j, few))

-- ---- a test of unique replies by how many replies came before

-- over a record that is seen
abbrev pub unique_seen : List Event → (ℕ → Bool) → Seen → Bool
unique_seen es g Nothing = false
unique_seen es g (Probe s) = false
unique_seen es g Duplicate = false
unique_seen es g Unknown = false
unique_seen es g (Known r) = g (replies r.key.sender es)
unique_seen es g (First r) = g 0
unique_seen es g (Observed o) = false

module _ (N : ℕ) (es : List Event) (a : Reply) (la : length (accepted es) ≤ N) (lr : length (rememberings es) ≤ N) (g : ℕ → Bool) where
  abbrev p : Option PendingPacket
  p = packet_of a.pending

  by-mark : (d b q : Bool) → has (held N es) a.key.sender ≡ b → present p ≡ q
      → unique_seen es g (reply_by (cond d 2 (cond b 4 (cond q 5 3))) a) ≡ (same_class unique (class_by d b q) && g (before N a.key p es))
  unfolding ready replies
  by-mark true b q e f = refl
  by-mark false true q e f = rw e
  by-mark false false true e f = rw (e, eqb_same a.key.sender)
  by-mark false false false e f = refl

  pub unique-seen : unique_seen es g (reply_by (reply_mark es a) a) ≡ (unique? N a.key p es && g (before N a.key p es))
  unfolding reply_mark reply_class
  unique-seen =
      by-mark (has_key (accepted es) a.key) (has (rememberings es) a.key.sender) (present p) (all_held N es lr a.key.sender) refl
      ∙ ap (λ (b : Bool). same_class unique (class_by (has_key (accepted es) a.key) b (present p)) && g (before N a.key p es)) (sym (all_held N es lr a.key.sender))
      ∙ ap (λ (ks : List ReplyKey). same_class unique (class_by (has_key ks a.key) (has (held N es) a.key.sender) (present p)) && g (before N a.key p es)) (sym (all_accepted N es la))

-- ---- each test

module _ (watched : Bool) (t : ℕ) (f : Seen → List Event → Bool) (of-nothing : (es : List Event) → f Nothing es ≡ false) where
  -- a probe and an observation by whether they are served
  sent-by : (h : List Call) (test : CallTest) (s : SentProbe) → f (Probe s) (events capacity h) ≡ test (Sent s) (events capacity h) → (b : Bool)
      → tally (f (seen_by (cond b 0 1) (Some (Sent s))) (events capacity h)) (count capacity test h) ≡ count capacity test (cond (eqb (cond b 0 1) 0) h (Sent s ∷ h))
  unfolding count
  sent-by h test s e true = rw (of-nothing (events capacity h))
  sent-by h test s e false = rw e

  observe-by : (h : List Call) (test : CallTest) (o : ReplyObservation) → f (Observed o) (events capacity h) ≡ test (Observe o) (events capacity h) → (b : Bool)
      → tally (f (seen_by (cond b 1 0) (Some (Observe o))) (events capacity h)) (count capacity test h) ≡ count capacity test (cond (eqb (cond b 1 0) 0) h (Observe o ∷ h))
  unfolding count
  observe-by h test o e true = rw e
  observe-by h test o e false = rw (of-nothing (events capacity h))

  marked-reply : (es : List Event) (a : Reply) → eqb (reply_mark es a) 0 ≡ false
  unfolding reply_mark
  marked-reply es a = go (has_key (accepted es) a.key) (has (rememberings es) a.key.sender) (present (packet_of a.pending))
    where
      go : (d b q : Bool) → eqb (cond d 2 (cond b 4 (cond q 5 3))) 0 ≡ false
      go true b q = refl
      go false true q = refl
      go false false true = refl
      go false false false = refl

  reply-by : (h : List Call) (test : CallTest) (a : Reply) → f (reply_by (reply_mark (events capacity h) a) a) (events capacity h) ≡ test (Accept a) (events capacity h)
      → tally (f (reply_by (reply_mark (events capacity h) a) a) (events capacity h)) (count capacity test h) ≡ count capacity test (cond (eqb (reply_mark (events capacity h) a) 0) h (Accept a ∷ h))
  unfolding count
  reply-by h test a e = rw (marked-reply (events capacity h) a, e)

  -- it is enough that the two agree at a probe, at a reply by its mark, and at an observation
  pub agrees : (test : CallTest)
      → ((s : SentProbe) (es : List Event) → f (Probe s) es ≡ test (Sent s) es)
      → ((es : List Event) → length (accepted es) ≤ capacity → length (rememberings es) ≤ capacity → (a : Reply) → f (reply_by (reply_mark es a) a) es ≡ test (Accept a) es)
      → ((es : List Event) → length (accepted es) ≤ capacity → (o : ReplyObservation) → f (Observed o) es ≡ test (Observe o) es)
      → ((x : ℕ) (es : List Event) → test (Advance x) es ≡ false)
      → ((es : List Event) → test Idle es ≡ false)
      → Agree watched t f test
  unfolding observe_mark count
  agrees test on_sent on_reply_lem on_observe_lem on-advance on-idle h few (Sent s) = sent-by h test s (on_sent s (events capacity h)) (late watched t s.packet.time)
  agrees test on_sent on_reply_lem on_observe_lem on-advance on-idle h few (Accept a) =
      reply-by h test a (on_reply_lem (events capacity h) (omega (arith, accepted_few capacity h, few)) (omega (arith, remembered_few capacity h, few)) a)
  agrees test on_sent on_reply_lem on_observe_lem on-advance on-idle h few (Observe o) =
      observe-by h test o (on_observe_lem (events capacity h) (omega (arith, accepted_few capacity h, few)) o) (in_range o && awaits (awaiting (events capacity h)) o.key)
  agrees test on_sent on_reply_lem on_observe_lem on-advance on-idle h few (Advance x) = rw (of-nothing (events capacity h), on-advance x (events capacity h))
  agrees test on_sent on_reply_lem on_observe_lem on-advance on-idle h few Idle = rw (of-nothing (events capacity h), on-idle (events capacity h))

-- a class
module _ (N : ℕ) (es : List Event) (a : Reply) (la : length (accepted es) ≤ N) (lr : length (rememberings es) ≤ N) where
  module _ (x : Class) (f : Seen → Bool) (duplicates : f Duplicate ≡ same_class x duplicate) (unknowns : f Unknown ≡ same_class x unknown) (knowns : f (Known a) ≡ same_class x unique) (firsts : f (First a) ≡ same_class x unique) where
    class_by_lem : (d b q : Bool) → f (reply_by (cond d 2 (cond b 4 (cond q 5 3))) a) ≡ same_class x (class_by d b q)
    class_by_lem true b q = duplicates
    class_by_lem false true q = knowns
    class_by_lem false false true = firsts
    class_by_lem false false false = unknowns

    pub class_seen : f (reply_by (reply_mark es a) a) ≡ same_class x (reply_class N es a.key (packet_of a.pending))
    unfolding reply_mark reply_class
    class_seen =
        class_by_lem (has_key (accepted es) a.key) (has (rememberings es) a.key.sender) (present (packet_of a.pending))
        ∙ ap (λ (b : Bool). same_class x (class_by (has_key (accepted es) a.key) b (present (packet_of a.pending)))) (sym (all_held N es lr a.key.sender))
        ∙ ap (λ (ks : List ReplyKey). same_class x (class_by (has_key ks a.key) (has (held N es) a.key.sender) (present (packet_of a.pending)))) (sym (all_accepted N es la))

absent_is : (x : Option PendingPacket) → absent x ≡ not (present (packet_of x))
absent_is None = refl
absent_is (Some p) = refl

and_and : (a b c : Bool) → (a && (b && c)) ≡ ((a && b) && c)
and_and true b c = refl
and_and false b c = refl

module _ (watched : Bool) (t copies : ℕ) where
  no_reply : (es : List Event) (a : Reply) → test_by 0 copies (reply_by (reply_mark es a) a) es ≡ false
  unfolding reply_mark
  no_reply es a = go (has_key (accepted es) a.key) (has (rememberings es) a.key.sender) (present (packet_of a.pending))
    where
      go : (d b q : Bool) → test_by 0 copies (reply_by (cond d 2 (cond b 4 (cond q 5 3))) a) es ≡ false
      go true b q = refl
      go false true q = refl
      go false false true = refl
      go false false false = refl

  pub sent_agrees : Agree watched t (test_by 0 copies) is_sent
  sent_agrees = agrees watched t (test_by 0 copies) (λ es. refl) is_sent (λ s es. refl) (λ es la lr a. no_reply es a) (λ es la o. refl) (λ x es. refl) (λ es. refl)

  pub duplicate_agrees : Agree watched t (test_by 1 copies) (is_class capacity duplicate)
  duplicate_agrees =
      agrees watched t (test_by 1 copies) (λ es. refl) (is_class capacity duplicate) (λ s es. refl)
      (λ es la lr a. class_seen capacity es a la lr duplicate (λ s. test_by 1 copies s es) refl refl refl refl)
      (λ es la o. refl) (λ x es. refl) (λ es. refl)

  pub unknown_agrees : Agree watched t (test_by 2 copies) (is_class capacity unknown)
  unknown_agrees =
      agrees watched t (test_by 2 copies) (λ es. refl) (is_class capacity unknown) (λ s es. refl)
      (λ es la lr a. class_seen capacity es a la lr unknown (λ s. test_by 2 copies s es) refl refl refl refl)
      (λ es la o. refl) (λ x es. refl) (λ es. refl)

  pub unique_agrees : Agree watched t (test_by 3 copies) (is_class capacity unique)
  unique_agrees =
      agrees watched t (test_by 3 copies) (λ es. refl) (is_class capacity unique) (λ s es. refl)
      (λ es la lr a. class_seen capacity es a la lr unique (λ s. test_by 3 copies s es) refl refl refl refl)
      (λ es la o. refl) (λ x es. refl) (λ es. refl)

  -- a test of unique replies by the events and the replies before: the record that is seen passes as the call does
  module _ (kind : ℕ) (g : List Event → Reply → ℕ → Bool) (duplicates : eqb kind 1 ≡ false) (unknowns : eqb kind 2 ≡ false) (says : (es : List Event) (a : Reply) (n : ℕ) → unique_at kind copies es n a ≡ g es a n) where
    seen_by_lem : (es : List Event) (a : Reply) (d b q : Bool)
        → test_by kind copies (reply_by (cond d 2 (cond b 4 (cond q 5 3))) a) es ≡ unique_seen es (g es a) (reply_by (cond d 2 (cond b 4 (cond q 5 3))) a)
    seen_by_lem es a true b q = duplicates
    seen_by_lem es a false true q = says es a (replies a.key.sender es)
    seen_by_lem es a false false true = says es a 0
    seen_by_lem es a false false false = unknowns

    by_before : (es : List Event) → length (accepted es) ≤ capacity → length (rememberings es) ≤ capacity → (a : Reply)
        → test_by kind copies (reply_by (reply_mark es a) a) es ≡ (unique? capacity a.key (packet_of a.pending) es && g es a (before capacity a.key (packet_of a.pending) es))
    unfolding reply_mark
    by_before es la lr a =
        seen_by_lem es a (has_key (accepted es) a.key) (has (rememberings es) a.key.sender) (present (packet_of a.pending))
        ∙ unique-seen capacity es a la lr (g es a)

  pub answered_agrees : Agree watched t (test_by 4 copies) (is_answered capacity)
  answered_agrees =
      agrees watched t (test_by 4 copies) (λ es. refl) (is_answered capacity) (λ s es. refl) (by_before 4 (λ es a n. eqb n 0) refl refl (λ es a n. refl))
      (λ es la o. refl) (λ x es. refl) (λ es. refl)

  pub additional_agrees : Agree watched t (test_by 5 copies) (is_additional capacity)
  additional_agrees =
      agrees watched t (test_by 5 copies) (λ es. refl) (is_additional capacity) (λ s es. refl) (by_before 5 (λ es a n. not (eqb n 0)) refl refl (λ es a n. refl))
      (λ es la o. refl) (λ x es. refl) (λ es. refl)

  pub late_agrees : Agree watched t (test_by 6 copies) (is_late capacity)
  late_agrees =
      agrees watched t (test_by 6 copies) (λ es. refl) (is_late capacity) (λ s es. refl)
      (λ es la lr a. by_before 6 (λ es a n. eqb n 0 && not (present (packet_of a.pending))) refl refl (λ es a n. ap (λ (b : Bool). eqb n 0 && b) (absent_is a.pending)) es la lr a
      ∙ and_and (unique? capacity a.key (packet_of a.pending) es) (eqb (before capacity a.key (packet_of a.pending) es) 0) (not (present (packet_of a.pending))))
      (λ es la o. refl) (λ x es. refl) (λ es. refl)

  pub satisfying_agrees : Agree watched t (test_by 7 copies) (is_satisfying capacity copies)
  satisfying_agrees =
      agrees watched t (test_by 7 copies) (λ es. refl) (is_satisfying capacity copies) (λ s es. refl) (by_before 7 (λ es a n. ltb n copies) refl refl (λ es a n. refl))
      (λ es la o. refl) (λ x es. refl) (λ es. refl)

  pub independent_agrees : Agree watched t (test_by 8 copies) (is_independent capacity)
  independent_agrees =
      agrees watched t (test_by 8 copies) (λ es. refl) (is_independent capacity) (λ s es. refl) (by_before 8 (λ es a n. not (eqb a.key.reflector a.key.sender)) refl refl (λ es a n. refl))
      (λ es la o. refl) (λ x es. refl) (λ es. refl)

  pub reordered_agrees : Agree watched t (test_by 9 copies) (is_reordered capacity)
  reordered_agrees =
      agrees watched t (test_by 9 copies) (λ es. refl) (is_reordered capacity) (λ s es. refl) (by_before 9 (λ es a n. behind a.key.reflector (highest_reflector (accepted es))) refl refl (λ es a n. refl))
      (λ es la o. refl) (λ x es. refl) (λ es. refl)
