-- The report of a log from the plain list of its served calls: each number by the definitions of crate history, and none from the code's state.
-- Assumes nothing.
use Rattle.std.specs.Prelude.{List, [], ◌∷◌, ℕ, zero, suc, ◌-◌, length, Option, Some, None}
use Rattle.limits.specs.Limits.{capacity}
use Rattle.call_types.specs.declared.Call.{Call}
use Rattle.probe_queue.specs.declared.QueuedProbe.{QueuedProbe}
use Rattle.history.specs.Ledger.{copies_of, reply_counts, thousandths}
use Rattle.history.specs.DirectLoss.{direct_counts}
use Rattle.history.specs.FollowUps.{follow_counts}
use Rattle.history.specs.Figures.{round_trip_figures}
use Rattle.observe_history.specs.Direct.{as_direct_counts, summary_from}
use Rattle.observe_history.specs.RoundTrips.{delays_from}
use Rattle.observe_history.specs.FollowUps.{as_follow_counts}
use Rattle.ledger_steps.specs.Rooms.{Rooms}
use Rattle.link_history.specs.Fresh.{Watching, alone, watching, Making}
use Rattle.link_history.specs.Shows.{lost_of, thousandths_from}
use Rattle.link_history.specs.Monitor.{monitor_from}
use Rattle.link_history.specs.Link.{served_from}
use Rattle.log_whole.specs.declared.Settings.{Settings}
use Rattle.log_whole.specs.Logs.{call_at}
use Rattle.report.specs.declared.figures.Session.{Session}
use Rattle.report.specs.declared.figures.Session.TheVariants as session
use Rattle.report.specs.declared.figures.Figures.{Figures}
use Rattle.link_figures.specs.Figures.{session_by, figure_of, followup_of, direct_of, missing_of, round_trip_of}

-- ---- the calls of a log

-- what one record says, before the calls of the earlier ones; nothing adds no call
abbrev pub call_then : Option Call → List Call → List Call
call_then None cs = cs
call_then (Some c) cs = c ∷ cs

-- those of its first n records, newest first
unfoldable pub log_calls : List ℕ → ℕ → List Call
log_calls log zero = []
log_calls log (suc n) = call_then (call_at log n) (log_calls log n)

-- ---- the link that its settings ask for

-- "threshold (u16; 0 means no monitor)"
abbrev pub watching_by : ℕ → ℕ → Watching
watching_by zero timeout = alone
watching_by (suc n) timeout = watching (suc n) timeout

-- copies, threshold and timeout of the trailer, with any words of the hash, rooms and queue
abbrev pub making_by : Settings → List ℕ → List QueuedProbe → Rooms → Making
making_by s secret queue rooms = record { copies = s.copies; secret = secret; monitor = watching_by s.threshold s.timeout; rooms = rooms; queue = queue }

-- ---- the figures, from the served calls h

-- state and consecutive losses of the plain monitor after h; none without a monitor
abbrev pub session_from : Watching → List Call → Session
session_from alone h = session.None
session_from (watching threshold timeout) h = session_by (monitor_from threshold timeout h).summary.state (monitor_from threshold timeout h).summary.consecutive_losses

-- records: how many the log has; turned: how many of them were refused
unfoldable pub figures_from : (copies : ℕ) → Watching → List Call → (records turned : ℕ) → Figures
figures_from copies v h records turned =
    let c = reply_counts capacity copies h in
    record {
      played = record { records = records; turned_away = turned };
      loss = record { requested = c.requested; unobserved = lost_of c; thousandths = figure_of (thousandths_from (thousandths c.requested (lost_of c))) };
      replies = record { unique = c.unique; duplicate = c.duplicate; unknown = c.unknown };
      probes = record { answered = c.answered; additional = c.additional; late = c.late };
      order = record { reordered = c.reordered; independent = c.independent };
      followup = followup_of (as_follow_counts (follow_counts capacity copies h));
      direct = direct_of (as_direct_counts (direct_counts capacity h));
      missing = missing_of (summary_from capacity h);
      session = session_from v h;
      rtt = round_trip_of (delays_from (round_trip_figures capacity h));
      evicted = record { unanswered = c.evicted-unanswered };
    }

-- ---- the report of a log

-- of these calls, newest first, those that are served, and how many are not: these are turned away
abbrev pub report_by : (copies : ℕ) → Watching → List Call → ℕ → Figures
report_by copies v cs records = figures_from copies v (served_from v cs) records (length cs - length (served_from v cs))

-- of all of its calls, on the link that its settings ask for; copies 0 counts as 1
abbrev pub report_from : List ℕ → Settings → Figures
report_from log s = report_by (copies_of s.copies) (watching_by s.threshold s.timeout) (log_calls log s.count) s.count
