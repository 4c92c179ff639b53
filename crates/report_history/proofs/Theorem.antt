-- EACH NUMBER OF A LOG'S REPORT IS WHAT ITS SERVED CALLS CALL FOR. Assumes nothing.
use Rattle.std.specs.Prelude.{Option, Some, None, Ok}
use Rattle.monitor.specs.declared.Monitor.{Monitor}
use mathlib.Core.Path.{◌≡◌, refl, ap, ◌∙◌}
use mathlib.Core.Bool.{true}
use mathlib.Core.List.{List}
use Prim.Native.Nat.{ℕ, zero, suc, ◌+◌, ◌-◌}
use native.Mathlib.Omega.{arith}
use lib.ListN.{length}
use Rattle.call_types.specs.declared.Call.{Call}
use Rattle.probe_queue.specs.declared.QueuedProbe.{QueuedProbe}
use Rattle.monitor.specs.declared.Summary.{Summary}
use Rattle.history.specs.Ledger.{copies_of}
use Rattle.ledger_state.specs.State.{fresh_ledger}
use Rattle.ledger_snapshot.specs.Snapshot.{snapshot_of}
use Rattle.ledger_steps.specs.Rooms.{Rooms}
use Rattle.link_steps.specs.Steps.{LinkStand, played, served, turned_away}
use Rattle.link_history.specs.Fresh.{Watching, alone, watching, Making, MakingFits, fresh_watch, fresh_link, AllFits}
use Rattle.link_history.specs.Monitor.{WatchShows}
use Rattle.link_history.specs.Link.{served_from, LinkShows}
use Rattle.link_history.proofs.Link.{served_is, made-calls-show, turned_away_adds_up}
use Rattle.log_whole.specs.declared.Settings.{Settings}
use Rattle.log_whole.specs.Logs.{call_at, log_of}
use Rattle.log_play.specs.Tally.{Tallied, recorded, tallied}
use Rattle.report.specs.Lines.{text_of}
use Rattle.report.specs.Report.{written}
use Rattle.link_figures.specs.Figures.{session_by, session_of, figure_of, followup_of, direct_of, missing_of, round_trip_of, figures_of}
use Rattle.link_report.specs.LogReport.{start_by, end_of, played_text, report_by as report_of_case, fits, report_of_log}
use Rattle.log_settings.specs.Checks.{checked_by}
use Rattle.log_settings.specs.Fresh.{watch_by}
use Rattle.report_history.specs.Figures.{call_then, log_calls, watching_by, making_by, session_from, figures_from, report_from}

-- ---- the tally of a log's records is what its calls leave

abbrev left_by : LinkStand → List Call → Tallied
left_by k cs = record { standing = played k cs; turned = turned_away k cs }

one_record : (k : LinkStand) (cs : List Call) (r : Option Call) → recorded (left_by k cs) r ≡ left_by k (call_then r cs)
unfolding played turned_away
one_record k cs None = refl
one_record k cs (Some c) = refl

pub tallied_is : (log : List ℕ) (k : LinkStand) (n : ℕ) → tallied log (record { standing = k; turned = 0 }) n ≡ left_by k (log_calls log n)
unfolding tallied played turned_away log_calls
tallied_is log k zero = refl
tallied_is log k (suc n) = ap (λ (t : Tallied). recorded t (call_at log n)) (tallied_is log k n) ∙ one_record k (log_calls log n) (call_at log n)

-- ---- it starts as a fresh link

watch_is : (n t : ℕ) → watch_by n t ≡ fresh_watch (watching_by n t)
watch_is zero t = refl
watch_is (suc n) t = refl

start_is : (s : Settings) (secret : List ℕ) (queue : List QueuedProbe) (rooms : Rooms) → start_by s secret queue rooms ≡ record { standing = fresh_link (making_by s secret queue rooms); turned = 0 }
start_is s secret queue rooms = λ i. record {
  standing = record { link = record { ledger = fresh_ledger s.copies secret; watch = watch_is s.threshold s.timeout i }; rooms = rooms; queue = queue };
  turned = 0;
}

-- ---- the figures of a link that shows what its served calls call for

session_is : (v : Watching) (h : List Call) (w : Option Monitor) (queue : List QueuedProbe) → WatchShows v h w queue → session_of w ≡ session_from v h
session_is alone h None queue s = refl
session_is alone h (Some m) queue s = absurd s
session_is (watching threshold timeout) h None queue s = absurd s
session_is (watching threshold timeout) h (Some m) queue s = ap (λ (x : Summary). session_by x.state x.consecutive_losses) s.state.summary

pub figures_are : (copies : ℕ) (v : Watching) (h : List Call) (k : LinkStand) (records turned : ℕ) → LinkShows copies v h k
    → figures_of k.link records turned ≡ figures_from copies v h records turned
unfolding figures_of figures_from snapshot_of
figures_are copies v h k records turned shows =
    let counts = shows.ledger.counts in
    let shown = shows.ledger.snapshot in
    let session = session_is v h k.link.watch k.queue shows.monitor in
    λ i. record {
      played = record { records = records; turned_away = turned };
      loss = record { requested = (counts i).replies.totals.requested; unobserved = (shown i).unobserved; thousandths = figure_of (shown i).thousandths };
      replies = record { unique = (counts i).replies.totals.unique; duplicate = (counts i).replies.totals.duplicate; unknown = (counts i).replies.totals.unknown };
      probes = record { answered = (counts i).replies.answers.answered; additional = (counts i).replies.answers.additional; late = (counts i).replies.answers.late };
      order = record { reordered = (counts i).replies.numbers.reordered; independent = (counts i).replies.numbers.independent };
      followup = followup_of (counts i).follow.counts;
      direct = direct_of (counts i).direct.counts;
      missing = missing_of (shown i).direct;
      session = session i;
      rtt = round_trip_of (counts i).rtt;
      evicted = record { unanswered = (counts i).replies.evicted.unanswered };
    }

-- ---- the theorem

module _ (log : List ℕ) (s : Settings) (secret : List ℕ) (queue : List QueuedProbe) (rooms : Rooms) where
  abbrev m : Making
  m = making_by s secret queue rooms

  abbrev cs : List Call
  cs = log_calls log s.count

  end_is : end_of log secret queue rooms s ≡ left_by (fresh_link m) cs
  unfolding end_of
  end_is = ap (λ (t : Tallied). tallied log t s.count) (start_is s secret queue rooms) ∙ tallied_is log (fresh_link m) s.count

  module _ (ok : MakingFits m) (w : AllFits cs) where
    turned_is : turned_away (fresh_link m) cs ≡ length cs - length (served_from m.monitor cs)
    turned_is =
        let a : length (served (fresh_link m) cs) ≡ length (served_from m.monitor cs) = ap length (served_is m ok cs w) in
        let b : length (served (fresh_link m) cs) + turned_away (fresh_link m) cs ≡ length cs = turned_away_adds_up (fresh_link m) cs in
        omega (arith, a, b)

    -- Each number and state of the report of a log is what its served calls call for.
    pub figures_are_history : figures_of (end_of log secret queue rooms s).standing.link s.count (end_of log secret queue rooms s).turned ≡ report_from log s
    figures_are_history =
        ap (λ (t : Tallied). figures_of t.standing.link s.count t.turned) end_is
        ∙ figures_are (copies_of s.copies) m.monitor (served_from m.monitor cs) (played (fresh_link m) cs) s.count (turned_away (fresh_link m) cs) (made-calls-show m ok cs w)
        ∙ ap (figures_from (copies_of s.copies) m.monitor (served_from m.monitor cs) s.count) turned_is

    -- The text that is printed of a good log is the text of what its served calls call for.
    pub report_is_history : played_text s (end_of log secret queue rooms s) ≡ text_of (report_from log s)
    report_is_history = ap text_of figures_are_history

    -- So is what the call of `report_log` leaves in the buffer, and what it answers.
    pub buffer_is_history : (buffer : List ℕ) → fits queue rooms buffer ≡ true → log_of log ≡ Ok s → (report_of_log log secret queue rooms buffer).outcome ≡ written (text_of (report_from log s)) buffer
    unfolding report_of_log
    buffer_is_history buffer f g =
        (λ j. (report_of_case (checked_by (f j) (g j)) (end_of log secret queue rooms) queue rooms buffer).outcome)
        ∙ ap (λ (t : List ℕ). written t buffer) report_is_history
