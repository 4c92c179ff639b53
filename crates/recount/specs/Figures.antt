-- THE FIGURES OF A LOG, from its records and their marks: each of the eleven lines is a count of records, or what looking back over them finds.
-- Assumes nothing.
use Rattle.std.specs.Prelude.{Bool, not, List, ℕ, eqb}
use Rattle.limits.specs.Limits.{capacity}
use Rattle.history.specs.Ledger.{copies_of}
use Rattle.history.specs.FollowUps.{round_trips}
use Rattle.history.specs.DirectLoss.{window, spans}
use Rattle.log_whole.specs.declared.Settings.{Settings}
use Rattle.report.specs.declared.figures.FollowUps.{FollowUps}
use Rattle.report.specs.declared.figures.Direct.{Direct}
use Rattle.report.specs.declared.figures.Session.{Session}
use Rattle.report.specs.declared.figures.Figures.{Figures}
use Rattle.recount_seen.specs.Seen.{events_of}
use Rattle.recount_counts.specs.Tests.{passing}
use Rattle.recount_lines.specs.Lines.{played_at, loss_at, replies_at, probes_at, order_at}
use Rattle.recount_follow_counts.specs.Tests.{follow_by}
use Rattle.recount_direct.specs.Classes.{direct_by}
use Rattle.recount_direct.specs.Missing.{missing_of}
use Rattle.recount_trips.specs.Trips.{trips_of}
use Rattle.recount_queue.specs.Moves.{move_at}
use Rattle.recount_monitor.specs.Session.{session_in}

-- "followup N matched N repeated N unmatched N ambiguous N unavailable N"
unfoldable pub followup_at : (copies : ℕ) → List ℕ → List ℕ → ℕ → FollowUps
followup_at copies log marks n = record {
  observations = passing (follow_by 5 copies) log marks n;
  matched = passing (follow_by 4 copies) log marks n;
  repeated = passing (follow_by 3 copies) log marks n;
  unmatched = passing (follow_by 2 copies) log marks n;
  ambiguous = passing (follow_by 1 copies) log marks n;
  unavailable = passing (follow_by 0 copies) log marks n;
}

-- "direct N unavailable N discontinuities N reordered N"
unfoldable pub direct_at : List ℕ → List ℕ → ℕ → Direct
direct_at log marks n = record {
  observations = passing (direct_by 0) log marks n;
  unavailable = passing (direct_by 1) log marks n;
  discontinuities = passing (direct_by 2) log marks n;
  reordered = passing (direct_by 3) log marks n;
}

-- all lines, the session given; evicted unanswered is 0, since a log has too few records for a probe to leave the held ones
unfoldable pub figures_by : (copies : ℕ) → List ℕ → List ℕ → ℕ → Session → Figures
figures_by copies log marks n session = record {
  played = played_at marks n;
  loss = loss_at (copies_of copies) log marks n;
  replies = replies_at (copies_of copies) log marks n;
  probes = probes_at (copies_of copies) log marks n;
  order = order_at (copies_of copies) log marks n;
  followup = followup_at (copies_of copies) log marks n;
  direct = direct_at log marks n;
  missing = missing_of (spans (window capacity (events_of log marks n)));
  session = session;
  rtt = trips_of (round_trips (events_of log marks n));
  evicted = record { unanswered = 0 };
}

-- "threshold (u16; 0 means no monitor)"
abbrev pub watched_by : ℕ → Bool
watched_by threshold = not (eqb threshold 0)

-- "state S losses N"
abbrev pub session_at : Settings → List ℕ → List ℕ → Session
session_at s log marks = session_in s.threshold s.timeout (move_at log marks) s.count

-- the figures of a log with these settings
abbrev pub figures_at : Settings → List ℕ → List ℕ → Figures
figures_at s log marks = figures_by s.copies log marks s.count (session_at s log marks)
