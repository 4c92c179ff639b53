-- THE LINE `state` OF A LOG: what its moves leave of the plain monitor is the monitor after its served calls. Assumes nothing.
use Rattle.std.specs.Prelude.{Option, Some, None, Ok}
use mathlib.Core.Path.{◌≡◌, refl, sym, ap, ◌∙◌}
use mathlib.Core.Bool.{Bool, true, false, ◌&&◌, cond}
use mathlib.Core.List.{List, ◌∷◌}
use Prim.Native.Nat.{ℕ, zero, suc, ◌≤◌, ◌<◌}
use native.Mathlib.Omega.{arith}
use lib.Dec.{eqb}
use lib.ListN.{length, get_or}
use borrow.Author.Tests.{ne_eqb}
use Rattle.limits.specs.Limits.{capacity}
use Rattle.call_types.specs.declared.SentProbe.{SentProbe}
use Rattle.call_types.specs.declared.Reply.{Reply}
use Rattle.call_types.specs.declared.ReplyKey.{ReplyKey}
use Rattle.call_types.specs.declared.ReplyObservation.{ReplyObservation}
use Rattle.call_types.specs.declared.Call.{Call}
use Rattle.call_types.specs.declared.Call.TheVariants.{Sent, Accept, Observe, Advance, Idle}
use Rattle.ranges.specs.Ranges.{in_range}
use Rattle.monitor.specs.declared.State.{State}
use Rattle.monitor.specs.declared.State.TheVariants as state
use Rattle.monitor_model.specs.Plain.{Plain, reply}
use Rattle.history.specs.Counting.{has, present}
use Rattle.history.specs.Given.{packet_of}
use Rattle.history.specs.Ledger.{Event, accepted, has_key, rememberings, awaiting, held, unique, same_class, class_by, reply_class, events}
use Rattle.log_whole.specs.declared.Settings.{Settings}
use Rattle.log_whole.specs.Logs.{call_at, log_of}
use Rattle.link_figures.specs.Figures.{session_by}
use Rattle.link_history.specs.Fresh.{Watching, watching}
use Rattle.link_history.specs.Monitor.{monitor_from}
use Rattle.link_history.specs.Link.{served_from}
use Rattle.report_history.specs.Figures.{call_then, log_calls, watching_by, session_from, figures_from, report_from}
use Rattle.report.specs.declared.figures.Session.TheVariants as session
use Rattle.recount_seen.specs.Seen.{events_of}
use Rattle.recount_back.specs.Back.{awaits}
use Rattle.recount_marks.specs.Marks.{late, reply_mark, observe_mark, call_mark, played_mark, Marked}
use Rattle.recount_queue.specs.Moves.{move_by, move_at}
use Rattle.recount_queue.specs.Track.{plain_in}
use Rattle.recount_queue.specs.Track as track
use Rattle.recount_monitor.specs.Session.{state_by, shown, session_in}
use Rattle.recount_history.specs.Settings.{watched_in}
use Rattle.recount_history.proofs.Few.{all_accepted, all_held, accepted_few, remembered_few}
use Rattle.recount_history.proofs.Refusals.{call_kept}
use Rattle.recount_history.proofs.Marked.{served_in, served_few, marks_say}
use Rattle.recount_history.proofs.Whole.{few_records, timed}

-- ---- one record

module _ (threshold timeout : ℕ) where
  abbrev M : List Call → Plain
  M h = monitor_from threshold timeout h

  sent_move : (h : List Call) (s : SentProbe) (b : Bool) → track.played (move_by (cond b 0 1) (Some (Sent s))) (M h) ≡ M (cond (eqb (cond b 0 1) 0) h (Sent s ∷ h))
  unfolding monitor_from
  sent_move h s true = refl
  sent_move h s false = refl

  observe_move : (h : List Call) (o : ReplyObservation) (b : Bool) → M h ≡ M (cond (eqb (cond b 1 0) 0) h (Observe o ∷ h))
  unfolding monitor_from
  observe_move h o true = refl
  observe_move h o false = refl

  module _ (h : List Call) (few : length h < capacity) (a : Reply) where
    abbrev es : List Event
    es = events capacity h

    by-mark : (d b q : Bool) → track.played (move_by (cond d 2 (cond b 4 (cond q 5 3))) (Some (Accept a))) (M h) ≡ cond (same_class unique (class_by d b q)) (reply (M h) a.key.sender) (M h)
    by-mark true b q = refl
    by-mark false true q = refl
    by-mark false false true = refl
    by-mark false false false = refl

    kept : (d b q : Bool) → M (Accept a ∷ h) ≡ M (cond (eqb (cond d 2 (cond b 4 (cond q 5 3))) 0) h (Accept a ∷ h))
    kept true b q = refl
    kept false true q = refl
    kept false false true = refl
    kept false false false = refl

    accept_move : track.played (move_by (reply_mark es a) (Some (Accept a))) (M h) ≡ M (cond (eqb (reply_mark es a) 0) h (Accept a ∷ h))
    unfolding monitor_from reply_mark reply_class
    accept_move =
        by-mark (has_key (accepted es) a.key) (has (rememberings es) a.key.sender) (present (packet_of a.pending))
        ∙ ap (λ (b : Bool). cond (same_class unique (class_by (has_key (accepted es) a.key) b (present (packet_of a.pending)))) (reply (M h) a.key.sender) (M h)) (sym (all_held capacity es (omega (arith, remembered_few capacity h, few)) a.key.sender))
        ∙ ap (λ (ks : List ReplyKey). cond (same_class unique (class_by (has_key ks a.key) (has (held capacity es) a.key.sender) (present (packet_of a.pending)))) (reply (M h) a.key.sender) (M h)) (sym (all_accepted capacity es (omega (arith, accepted_few capacity h, few))))
        ∙ kept (has_key (accepted es) a.key) (has (rememberings es) a.key.sender) (present (packet_of a.pending))

  call_move : (h : List Call) → length h < capacity → (t : ℕ) (c : Call)
      → track.played (move_by (call_mark true t (events capacity h) c) (Some c)) (M h) ≡ M (cond (eqb (call_mark true t (events capacity h) c) 0) h (c ∷ h))
  unfolding observe_mark monitor_from
  call_move h few t (Sent s) = sent_move h s (late true t s.packet.time)
  call_move h few t (Accept a) = accept_move h few a
  call_move h few t (Observe o) = observe_move h o (in_range o && awaits (awaiting (events capacity h)) o.key)
  call_move h few t (Advance x) = refl
  call_move h few t Idle = refl

  abbrev v : Watching
  v = watching threshold timeout

  module _ (log marks : List ℕ) (n : ℕ) (few : n ≤ capacity) (marked : Marked true timeout log marks n) where
    one_record : (r : Option Call) (cs : List Call) → length (served_from v cs) < capacity
        → track.played (move_by (played_mark true timeout (events capacity (served_from v cs)) r) r) (M (served_from v cs)) ≡ M (served_from v (call_then r cs))
    unfolding served_from
    one_record None cs l = refl
    one_record (Some c) cs l = call_move (served_from v cs) l timeout c ∙ sym (ap M (call_kept (served_from v cs) l v timeout refl c))

    -- the moves of the first j records leave the monitor of the served calls among them
    pub monitor_says : (j : ℕ) → j ≤ n → plain_in threshold timeout (move_at log marks) j ≡ M (served_in v timeout refl log j)
    unfolding plain_in log_calls served_from move_at monitor_from
    monitor_says zero l = refl
    monitor_says (suc j) l =
        let e : events_of log marks j ≡ events capacity (served_in v timeout refl log j) = marks_say v timeout refl log marks n few marked j (omega arith) in
        ap (track.played (move_by (get_or marks j 0) (call_at log j))) (monitor_says j (omega arith))
        ∙ ap (λ (m : ℕ). track.played (move_by m (call_at log j)) (M (served_in v timeout refl log j))) (marked j l)
        ∙ ap (λ (es : List Event). track.played (move_by (played_mark true timeout es (call_at log j)) (call_at log j)) (M (served_in v timeout refl log j))) e
        ∙ one_record (call_at log j) (log_calls log j) (omega (arith, served_few v timeout refl log j, few))

-- ---- the line

-- the words of the report's figures and those of the second count
same_state : (x : State) (losses : ℕ) → session_by x losses ≡ state_by x losses
same_state state.Idle losses = refl
same_state state.Active losses = refl
same_state state.Failed losses = refl

module _ (timeout : ℕ) (log marks : List ℕ) (n : ℕ) (few : n ≤ capacity) where
  session_says : (threshold : ℕ) → Marked (watched_in (watching_by threshold timeout)) timeout log marks n
      → session_from (watching_by threshold timeout) (served_in (watching_by threshold timeout) timeout (timed threshold timeout) log n) ≡ session_in threshold timeout (move_at log marks) n
  unfolding session_in
  session_says zero marked = refl
  session_says (suc threshold) marked =
      let left = (monitor_from (suc threshold) timeout (served_in (watching (suc threshold) timeout) timeout refl log n)).summary in
      same_state left.state left.consecutive_losses ∙ ap (λ (p : Plain). shown p.summary) (sym (monitor_says (suc threshold) timeout log marks n few marked n (omega arith)))
      ∙ ap (λ (b : Bool). cond b session.None (shown (plain_in (suc threshold) timeout (move_at log marks) n).summary)) (sym (ne_eqb (suc threshold) 0 (λ e. omega arith)))

module _ (log : List ℕ) (s : Settings) (g : log_of log ≡ Ok s) (marks : List ℕ) (marked : Marked (watched_in (watching_by s.threshold s.timeout)) s.timeout log marks s.count) where
  -- "state S losses N"
  pub session-line : (report_from log s).session ≡ session_in s.threshold s.timeout (move_at log marks) s.count
  unfolding figures_from
  session-line = session_says s.timeout log marks s.count (omega (arith, few_records log s g)) s.threshold marked
