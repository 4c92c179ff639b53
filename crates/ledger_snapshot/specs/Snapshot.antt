-- What `snapshot` shows: `MeasurementSummary`, without the session state, which is the monitor's own. It refuses nothing.
use Rattle.replies.specs.Served.{unobserved}
use Rattle.direct.specs.Shown as direct
use Rattle.delays.specs.Summary as delays
use Rattle.follow_ups.specs.Shown as follow_ups
use Rattle.thousandths.specs.Thousandths.{thousandths_of}
use Rattle.ledger_state.specs.declared.Ledger.{Ledger}
use Rattle.ledger_snapshot.specs.declared.Snapshot.{Snapshot}

-- each part of the ledger, with unobserved and its thousandths of requested, which are absent when nothing was requested
unfoldable pub snapshot_of : Ledger → Snapshot
snapshot_of l = record {
  replies = l.counts.replies;
  unobserved = unobserved l.counts.replies;
  thousandths = thousandths_of (unobserved l.counts.replies) l.counts.replies.totals.requested;
  rtt = delays.summary_of l.counts.rtt;
  direct = direct.summary_of l.counts.direct;
  follow = follow_ups.summary_of l.counts.follow;
}
