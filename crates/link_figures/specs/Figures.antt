-- Which figure of a link each number of the report is.
-- Assumes nothing.
use Rattle.delays.specs.declared.Nanoseconds.{Nanoseconds}
use Rattle.monitor.specs.declared.Monitor.{Monitor}
use Rattle.std.specs.Prelude.{ℕ, Option, Some, None}
use Rattle.replies.specs.declared.Replies.{Replies}
use Rattle.replies.specs.Served.{unobserved}
use Rattle.thousandths.specs.Thousandths.{thousandths_of}
use Rattle.delays.specs.declared.Delays.{Delays}
use Rattle.direct.specs.declared.Counts.{Counts}
use Rattle.direct.specs.declared.summary.DirectSummary.{DirectSummary}
use Rattle.direct.specs.Shown.{summary_of}
use Rattle.follow_ups.specs.declared.FollowCounts.{FollowCounts}
use Rattle.monitor.specs.declared.State.{State}
use Rattle.monitor.specs.declared.State.TheVariants.{Idle, Active, Failed}
use Rattle.link_steps.specs.declared.Link.{Link}
use Rattle.report.specs.declared.figures.Session.{Session}
use Rattle.report.specs.declared.figures.Session.TheVariants as session
use Rattle.report.specs.declared.figures.Loss.{Loss}
use Rattle.report.specs.declared.figures.FollowUps.{FollowUps}
use Rattle.report.specs.declared.figures.Direct.{Direct}
use Rattle.report.specs.declared.figures.Missing.{Missing}
use Rattle.report.specs.declared.figures.RoundTrip.{RoundTrip}
use Rattle.report.specs.declared.figures.Figures.{Figures}

-- "missing and rtt values absent are `-`"
abbrev pub value_of : Option ℕ → Option ℕ
value_of None = None
value_of (Some n) = Some n

-- "the answer is absent and the report prints `thousandths -`" (document 02, Q-5)
abbrev pub figure_of : Option ℕ → Option ℕ
figure_of None = None
figure_of (Some n) = Some n

-- "rtt is ns": a round trip is not negative
abbrev pub time_of : Option Nanoseconds → Option ℕ
time_of None = None
time_of (Some ns) = Some ns.magnitude

-- "state is `none` (losses 0), `idle`, `active` or `failed`"
abbrev pub session_by : State → ℕ → Session
session_by Idle losses = session.Idle losses
session_by Active losses = session.Active losses
session_by Failed losses = session.Failed losses

-- `none` without a monitor, and otherwise its state and its consecutive losses
abbrev pub session_of : Option Monitor → Session
session_of None = session.None
session_of (Some m) = session_by m.summary.state m.summary.consecutive_losses

-- the line `requested`: requested, unobserved, and the thousandths of these two
abbrev pub loss_of : Replies → Loss
loss_of r = record { requested = r.totals.requested; unobserved = unobserved r; thousandths = figure_of (thousandths_of (unobserved r) r.totals.requested) }

-- "`followup` and `direct` head their observation counts"
abbrev pub followup_of : FollowCounts → FollowUps
followup_of n = record {
  observations = n.observations;
  matched = n.matched;
  repeated = n.repeated;
  unmatched = n.unmatched;
  ambiguous = n.ambiguous;
  unavailable = n.unavailable;
}

-- the same of the counts of direct loss; a history exceeded is not reported
abbrev pub direct_of : Counts → Direct
direct_of n = record { observations = n.observations; unavailable = n.unavailable; discontinuities = n.discontinuities; reordered = n.reordered }

-- forward and reverse missing, each absent where it is not shown
abbrev pub missing_of : DirectSummary → Missing
missing_of s = record { forward = value_of s.spans.forward; reverse = value_of s.spans.reverse }

-- how many round trips, the smallest and the largest in ns; both absent where there are none
abbrev pub round_trip_of : Delays → RoundTrip
round_trip_of d = record { samples = d.count; min = time_of d.min; max = time_of d.max }

-- all of them; records: how many the log has, turned: how many were refused
unfoldable pub figures_of : Link → ℕ → ℕ → Figures
figures_of k records turned = record {
  played = record { records = records; turned_away = turned };
  loss = loss_of k.ledger.counts.replies;
  replies = record {
    unique = k.ledger.counts.replies.totals.unique;
    duplicate = k.ledger.counts.replies.totals.duplicate;
    unknown = k.ledger.counts.replies.totals.unknown;
  };
  probes = record {
    answered = k.ledger.counts.replies.answers.answered;
    additional = k.ledger.counts.replies.answers.additional;
    late = k.ledger.counts.replies.answers.late;
  };
  order = record { reordered = k.ledger.counts.replies.numbers.reordered; independent = k.ledger.counts.replies.numbers.independent };
  followup = followup_of k.ledger.counts.follow.counts;
  direct = direct_of k.ledger.counts.direct.counts;
  missing = missing_of (summary_of k.ledger.counts.direct);
  session = session_of k.watch;
  rtt = round_trip_of k.ledger.counts.rtt;
  evicted = record { unanswered = k.ledger.counts.replies.evicted.unanswered };
}
