-- WHAT A HOST READS, after any calls, is the one plain record of its served calls. The code's own types stand behind it: this follows from
-- `any_typed_calls-show` of crate host_typed_history, whose statement is over them. Assumes nothing.
use Rattle.std.specs.Prelude.{Result, Ok, Err, Some, None}
use Rattle.ledger_state.specs.declared.Ledger.{Ledger}
use Rattle.ledger_steps.specs.declared.Accepted.{Accepted}
use mathlib.Core.Path.{◌≡◌, refl, sym, ap, ◌∙◌, subst}
use mathlib.Core.Bool.{Bool, true, false, not, ◌||◌, ◌&&◌, cond}
use mathlib.Core.List.{List, [], ◌∷◌, map}
use Prim.Native.Nat.{ℕ, zero, suc}
use native.Mathlib.Omega.{arith}
use lib.Dec.{eqb, leb, ltb}
use lib.ListN.{length, get_or}
use Rattle.limits.specs.Limits.{capacity}
use Rattle.limits.specs.Refusals.{wrong_room}
use Rattle.call_types.specs.declared.Call.{Call}
use Rattle.call_types.specs.declared.Call.TheVariants.{Accept}
use Rattle.probe_queue.specs.declared.QueuedProbe.{QueuedProbe}
use Rattle.probe_queue.specs.Queue.{choose, nil}
use Rattle.monitor.specs.declared.Monitor.{Monitor}
use Rattle.monitor.specs.declared.Summary.{Summary}
use Rattle.monitor.specs.Refusals.{misplaced}
use Rattle.monitor.specs.Refusals as refusals
use Rattle.monitor.specs.Operations.{reply_if}
use Rattle.monitor.specs.Answers.{deadline_of, deadline_number}
use Rattle.monitor_model.specs.Plain.{Sent, Plain, deadline}
use Rattle.monitor_model.specs.Playing as monitor
use Rattle.ledger_state.specs.BurstWait.{burst_wait}
use Rattle.ledger_state.specs.Refusal.{first_refusal, sized, rings_fit, room_for_call}
use Rattle.ledger_steps.specs.Refusals.{earlier, refusal_of_accept, refusal_of_answered}
use Rattle.ledger_steps.specs.Accept.{AcceptOutcome, accept_on}
use Rattle.ledger_steps.specs.Readers.{answered_on}
use Rattle.ledger_steps.specs.Calls.{AcceptResult, accept_number, accept_by, accept_to, answered_number, answered_by, answered_to}
use Rattle.ledger_checks.proofs.Order.{earlier_alone, earlier-none}
use Rattle.ledger_watched.specs.Watched as watched
use Rattle.link_steps.specs.Steps.{was_unique, refuses}
use Rattle.history.specs.Ledger.{copies_of}
use Rattle.history.specs.Plain.{plain_figures, waits, has_reply, answer_to}
use Rattle.link_history.specs.Shows.{LedgerShows}
use Rattle.link_history.specs.Monitor.{MonitorShows}
use Rattle.link_mixed_history.specs.Mixed.{unwatched}
use Rattle.link_mixed_history.specs.Shows.{MixedShows, plain_from}
use Rattle.host_numbers.specs.Numbers.{flag_word}
use Rattle.host_ledger.specs.Words.{ledger_at}
use Rattle.host_monitor_words.specs.Words.{monitor_at}
use Rattle.host_calls.specs.Calls.{reply_of}
use Rattle.host_accept_words.specs.Accept.{accept_of, answer_after}
use Rattle.host_watched_accept_words.specs.Calls as host_watched
use Rattle.host_watched_accept.specs.Calls.{watched_accept_to}
use Rattle.host_snapshot.specs.Snapshot as snapshot
use Rattle.host_burst_wait.specs.BurstWait as wait
use Rattle.host_answered.specs.Answered as answered
use Rattle.host_monitor.specs.Calls.{answered_by as deadline_by, shows, summary_to, deadline_to}
use Rattle.host_monitor.specs.Calls as host_monitor
use Rattle.host_snapshot_words.specs.Words.{shown_words}
use Rattle.host_link_history.specs.Hosted.{HostLink, said}
use Rattle.host_typed_history.proofs.Shows.{any_typed_calls-show}
use Rattle.host_plain_history.specs.Host.{Memory, HostCall, accept, after, ledger_calls, monitor_calls, Settings, begun, Fits, Typed, AllTyped}
use Rattle.host_plain_history.specs.Monitor.{Watch, front_deadline}
use Rattle.host_plain_history.specs.Words.{number_words, figure_words, answer_words, watch_words}
use Rattle.host_plain_history.specs.Reads.{monitor_by, Reads}
use Rattle.host_plain_history.proofs.Words.{snapshot_words, answer-words}
use Rattle.host_plain_history.proofs.Monitor.{waiting, as_watch, watch_is}
use Rattle.host_plain_history.proofs.Host.{link_of, all_of, after_is, fit_all, making_of, making_fits, host_fits, ledger_calls_lem, monitor_calls_lem, all_served}

-- ---- the monitor

-- a ring that is in place: a deadline was answered
in_place : (o e : Bool) (t : ℕ) (ps : List Sent) → choose o (Err wrong_room) (choose e (Ok None) (Ok (Some t))) ≡ deadline ps → o ≡ false
in_place false e t ps q = refl
in_place true e t [] q = absurd (omega (arith, ap deadline_number q))
in_place true e t (p ∷ ps) q = absurd (omega (arith, ap deadline_number q))

-- in a room of any length that is refused nothing, it is in place in one of the right length too
placed_rest : (a b : Bool) → (not a || b) ≡ false → b ≡ false
placed_rest true b e = e
placed_rest false b e = absurd (true_is_not_false e)
  where
    true_is_not_false : true ≡ false → ⊥
    true_is_not_false q = subst (λ (x : Bool). cond x Unit ⊥) q tt

module _ (words : List ℕ) (queue : List QueuedProbe) (p : Plain) (sh : MonitorShows (monitor_at words) queue p) where
  placed : misplaced (monitor_at words) capacity ≡ false
  unfolding deadline_of
  placed =
      placed_rest (eqb (length queue) capacity) (leb capacity (monitor_at words).ring.head || ltb capacity (monitor_at words).ring.len)
      (in_place (misplaced (monitor_at words) (length queue)) (eqb (monitor_at words).ring.len 0) (get_or queue (monitor_at words).ring.head nil).deadline p.probes sh.deadline_is)

  summary_reads : (before : List ℕ) → summary_to words before ≡ host_monitor.told 0 (watch_words (as_watch p))
  unfolding summary_to
  summary_reads before =
      ap (λ (b : Bool). choose b (host_monitor.told wrong_room before) (host_monitor.told 0 (shows (monitor_at words).summary))) placed
      ∙ ap (λ (s : Summary). host_monitor.told 0 (shows s)) sh.state.summary

  deadline_reads : (before : List ℕ) → deadline_to words queue before ≡ host_monitor.told 0 (number_words (front_deadline (as_watch p).waiting))
  unfolding deadline_to
  deadline_reads before = ap (deadline_by before) sh.deadline_is ∙ front p.probes
    where
      front : (ps : List Sent) → deadline_by before (deadline ps) ≡ host_monitor.told 0 (number_words (front_deadline (map waiting ps)))
      front [] = refl
      front (q ∷ ps) = refl

-- ---- the ledger

-- what is answered, its rings are in place
rings_fit_lem : (a b c x : Bool) → answered_number (answered_by (first_refusal (a && b && c) true true true true true) x) ≡ 0 → c ≡ true
rings_fit_lem a b true x e = refl
rings_fit_lem true true false x e = absurd (omega (arith, e))
rings_fit_lem true false false x e = absurd (omega (arith, e))
rings_fit_lem false true false x e = absurd (omega (arith, e))
rings_fit_lem false false false x e = absurd (omega (arith, e))

-- the words of an answer with a monitor are those of the ledger's
both_words : (r : Result (Ledger × Accepted) ℕ) (m : Monitor) (before : List ℕ) → host_watched.answer_after before (watched.both_accept r m) ≡ answer_after before r
both_words (Ok (l, a)) m before = refl
both_words (Err n) m before = refl

both-number : (r : Result (Ledger × Accepted) ℕ) (m : Monitor) → watched.accept_number (watched.both_accept r m) ≡ accept_number r
both-number (Ok (l, a)) m = refl
both-number (Err n) m = refl

-- an accept that another part does not refuse is answered as without it
same_answer : (n k : ℕ) (o : AcceptOutcome) (keys slots probes links : List (List ℕ))
    → accept_number (accept_by n o keys slots probes links).answer ≡ 0 → (n ≡ 0 → k ≡ 0) → accept_by n o keys slots probes links ≡ accept_by k o keys slots probes links
same_answer zero k o keys slots probes links e f = ap (λ (j : ℕ). accept_by j o keys slots probes links) (sym (f refl))
same_answer (suc n) k o keys slots probes links e f = absurd (omega (arith, e))

module _ (copies : ℕ) (h : List Call) (x : Memory) (sh : LedgerShows copies h (unwatched (said (link_of x)))) where
  snapshot_reads : snapshot.snapshot_leaves x.ledger ≡ snapshot.left 0 (figure_words (plain_figures capacity copies h))
  unfolding snapshot.snapshot_leaves
  snapshot_reads = ap (snapshot.left 0) (ap shown_words sh.snapshot ∙ snapshot_words copies h)

  answered_reads : (sequence : ℕ) (before : List ℕ)
      → answered.answered_leaves x.ledger x.probes x.links sequence before ≡ answered.left 0 (flag_word (has_reply capacity h sequence) ∷ [])
  unfolding answered.answered_leaves
  answered_reads sequence before = ap (λ (r : Result Bool ℕ). answered.left_by r before) (sh.answered sequence)

  rings : rings_fit (ledger_at x.ledger) ≡ true
  unfolding answered_to refusal_of_answered
  rings =
      rings_fit_lem (sized (length x.probes)) (sized (length x.links)) (rings_fit (ledger_at x.ledger)) (answered_on (ledger_at x.ledger) x.probes x.links 0)
      (ap answered_number (sh.answered 0))

  wait_reads : (before : List ℕ) → wait.burst_wait_leaves x.ledger before ≡ wait.left 0 (flag_word (waits capacity copies h) ∷ [])
  unfolding wait.burst_wait_leaves
  wait_reads before =
      ap (λ (b : Bool). cond b (wait.left 0 (flag_word (burst_wait (ledger_at x.ledger)) ∷ [])) (wait.left wrong_room before)) rings
      ∙ ap (λ (b : Bool). wait.left 0 (flag_word b ∷ [])) sh.waits

  module _ (sender reflector t3 pending time tag : ℕ) (before : List ℕ) (typed : Typed (accept sender reflector t3 pending time tag)) where
    -- by the refusal of the ledger alone
    accept-by : refuses (unwatched (said (link_of x))) (Accept (reply_of sender reflector t3 pending time tag)) ≡ 0
        → answer_after before (accept_to 0 (ledger_at x.ledger) x.keys x.slots x.probes x.links (reply_of sender reflector t3 pending time tag)).answer
        ≡ answer_words (answer_to capacity h (reply_of sender reflector t3 pending time tag))
    accept-by e =
        ap (answer_after before) (sh.accepted (reply_of sender reflector t3 pending time tag) (record { sender_in = typed.0; reflector_in = typed.1; t3_in = typed.2 }) e)
        ∙ answer-words (answer_to capacity h (reply_of sender reflector t3 pending time tag))

    accept_reads : let r = accept_of x.ledger x.keys x.slots x.probes x.links before (reply_of sender reflector t3 pending time tag) in
        r.number ≡ 0 → r.answer ≡ answer_words (answer_to capacity h (reply_of sender reflector t3 pending time tag))
    unfolding accept_of refuses
    accept_reads e = accept-by e

    watched_reads : let r = watched_accept_to x.ledger x.monitor x.keys x.slots x.probes x.links x.queue sender reflector t3 pending time tag before in
        r.number ≡ 0 → r.answer ≡ answer_words (answer_to capacity h (reply_of sender reflector t3 pending time tag))
    unfolding watched_accept_to watched.accept_to refuses accept_to refusal_of_accept
    watched_reads e =
        both_words r m before
        ∙ ap (λ (y : AcceptResult). answer_after before y.answer) same
        ∙ accept-by (ap (λ (y : AcceptResult). accept_number y.answer) (sym same) ∙ sym (both-number r m) ∙ e)
      where
        o : AcceptOutcome
        o = accept_on (ledger_at x.ledger) x.keys x.slots x.probes x.links (reply_of sender reflector t3 pending time tag)

        -- the ledger's refusal, and the monitor's
        own : ℕ
        own =
            first_refusal (sized (length x.keys) && sized (length x.slots) && sized (length x.probes) && sized (length x.links) && rings_fit (ledger_at x.ledger)) true true
            (room_for_call (ledger_at x.ledger)) true true

        other : ℕ
        other = refusals.refusal_of (monitor_at x.monitor) (length x.queue)

        by : ℕ → AcceptResult
        by n = accept_by (earlier own n) o x.keys x.slots x.probes x.links

        r : Result (Ledger × Accepted) ℕ
        r = (by other).answer

        m : Monitor
        m = (reply_if (was_unique r) (monitor_at x.monitor) x.queue sender).monitor

        same : by other ≡ by 0
        same = same_answer (earlier own other) (earlier own 0) o x.keys x.slots x.probes x.links (sym (both-number r m) ∙ e) (λ q. sym (earlier_alone own) ∙ earlier-none own other q)

-- ---- the whole

-- the number and the words of what a call leaves
shown_parts : {r : snapshot.Left} {n : ℕ} {ws : List ℕ} → r ≡ snapshot.left n ws → (r.number ≡ n) × (r.shown ≡ ws)
shown_parts e = (ap (λ (y : snapshot.Left). y.number) e, ap (λ (y : snapshot.Left). y.shown) e)

wait_parts : {r : wait.Left} {n : ℕ} {ws : List ℕ} → r ≡ wait.left n ws → (r.number ≡ n) × (r.answer ≡ ws)
wait_parts e = (ap (λ (y : wait.Left). y.number) e, ap (λ (y : wait.Left). y.answer) e)

answered_parts : {r : answered.Left} {n : ℕ} {ws : List ℕ} → r ≡ answered.left n ws → (r.number ≡ n) × (r.answer ≡ ws)
answered_parts e = (ap (λ (y : answered.Left). y.number) e, ap (λ (y : answered.Left). y.answer) e)

told_parts : {r : host_monitor.Told} {n : ℕ} {ws : List ℕ} → r ≡ host_monitor.told n ws → (r.number ≡ n) × (r.words ≡ ws)
told_parts e = (ap (λ (y : host_monitor.Told). y.number) e, ap (λ (y : host_monitor.Told). y.words) e)

-- THE THEOREM. Whatever the lent memory held before, whatever a host calls, each call with the monitor, without it or of the monitor alone, and whatever is
-- refused: what it then reads is what the calls that returned 0 call for.
pub shown_plainly : (s : Settings) (x : Memory) → Fits s x → (cs : List HostCall) → AllTyped cs
    → Reads s (ledger_calls (begun s x) cs) (monitor_calls (begun s x) cs) (after (begun s x) cs)
shown_plainly s x fits cs w = reads (after (begun s x) cs) (ledger_calls (begun s x) cs) (monitor_calls (begun s x) cs) shows_it
    (watch_is s.threshold s.timeout (monitor_calls (begun s x) cs) (all_served s x fits cs w))
  where
    shows_it : MixedShows (copies_of s.copies) (making_of s x).monitor (ledger_calls (begun s x) cs) (monitor_calls (begun s x) cs) (said (link_of (after (begun s x) cs)))
    shows_it = subst
        (λ (y : HostLink). MixedShows (copies_of s.copies) (making_of s x).monitor (ledger_calls (begun s x) cs) (monitor_calls (begun s x) cs) (said y))
        (sym (after_is (begun s x) cs))
        (rw (ledger_calls_lem s x fits cs w, monitor_calls_lem s x fits cs w) (any_typed_calls-show (making_of s x) (making_fits s x fits) (host_fits s x fits) (all_of cs) (fit_all cs w)))

    reads : (y : Memory) (h : List Call) (ops : List monitor.Call) → MixedShows (copies_of s.copies) (making_of s x).monitor h ops (said (link_of y))
        → monitor_by s ops ≡ as_watch (plain_from s.threshold s.timeout ops) → Reads s h ops y
    reads y h ops sh plain = record {
      snapshot_is = shown_parts (snapshot_reads (copies_of s.copies) h y sh.ledger);
      burst_wait_is = λ before. wait_parts (wait_reads (copies_of s.copies) h y sh.ledger before);
      answered_is = λ sequence before. answered_parts (answered_reads (copies_of s.copies) h y sh.ledger sequence before);
      accept_is = accept_reads (copies_of s.copies) h y sh.ledger;
      watched-accept_is = watched_reads (copies_of s.copies) h y sh.ledger;
      summary_is = λ before.
          told_parts (summary_reads y.monitor y.queue (plain_from s.threshold s.timeout ops) sh.monitor before ∙ ap (λ (v : Watch). host_monitor.told 0 (watch_words v)) (sym plain));
      deadline_is = λ before.
          told_parts
          (deadline_reads y.monitor y.queue (plain_from s.threshold s.timeout ops) sh.monitor before
          ∙ ap (λ (v : Watch). host_monitor.told 0 (number_words (front_deadline v.waiting))) (sym plain));
    }
