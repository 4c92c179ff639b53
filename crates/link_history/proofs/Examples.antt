-- Document 01's example of a report, computed: sent 7 ordinal 1 at 100, accept (7,7,5) pending at 100, observe 50 with no flag, the same accept again;
-- copies 1, threshold 2, timeout 1,000. Lists are newest first.
use Rattle.std.specs.Prelude.{Some, None}
use mathlib.Core.Path.{◌≡◌, refl}
use mathlib.Core.Bool.{false}
use mathlib.Core.List.{List, [], ◌∷◌}
use lib.IntN.{pos}
use Rattle.limits.specs.Limits.{capacity}
use Rattle.estimate.specs.declared.ClockFormat.TheVariants.{NTP}
use Rattle.call_types.specs.declared.PendingPacket.{PendingPacket}
use Rattle.call_types.specs.declared.ReplyKey.{ReplyKey}
use Rattle.call_types.specs.declared.ReplyObservation.{ReplyObservation}
use Rattle.call_types.specs.declared.Call.{Call}
use Rattle.call_types.specs.declared.Call.TheVariants.{Sent, Accept, Observe}
use Rattle.ranges.specs.Ranges.{in_range}
use Rattle.direct.specs.Shown.{no_spans}
use Rattle.monitor.specs.declared.State.TheVariants.{Active}
use Rattle.monitor.specs.States.{same, enters}
use Rattle.monitor_model.specs.Plain.{insert, remove}
use Rattle.ledger_steps.specs.Refusals.{earlier}
use Rattle.history.specs.Counting.{has}
use Rattle.history.specs.Ledger.{rememberings, without, distinct, replies, accepted, has_key, awaiting, last_accepted, held, reply_class, ready, after_reply, events, count, highest_reflector, oldest, probes_evicted, evicted_unanswered}
use Rattle.history.specs.DirectLoss.{window, spans, anchor, latest_transmit}
use Rattle.history.specs.FollowUps.{round_trips}
use Rattle.history.specs.Figures.{total, least, greatest, round_trip_figures}
use Rattle.link_history.specs.Fresh.{watching}
use Rattle.link_history.specs.Shows.{snapshot_from}
use Rattle.link_history.specs.Monitor.{monitor_from}
use Rattle.link_history.specs.Link.{served_from}

abbrev key : ReplyKey
key = record { sender = 7; reflector = 7; t3 = 5 }

abbrev packet_held : PendingPacket
packet_held = record { time = 100; tag = 0 }

abbrev observation : ReplyObservation
observation = record {
  key = key;
  rtt = 50;
  t4 = None;
  format = NTP;
  reference = pos 0;
  offset = pos 0;
  ordinal = None;
  counters = None;
  follow = None;
  quality = None;
}

-- the four records
abbrev report : List Call
report =
    Accept (record { key = key; pending = Some packet_held }) ∷ Observe observation ∷ Accept (record { key = key; pending = Some packet_held })
    ∷ Sent (record { sequence = 7; ordinal = 1; train = 0; packet = packet_held }) ∷ []

-- records 4 turned away 0
report-served : served_from (watching 2 1000) report ≡ report
unfolding served_from earlier monitor_from enters same insert remove count events after_reply reply_class ready last_accepted held has_key has accepted rememberings distinct without awaiting in_range
report-served = refl

-- requested 1; unique 1 duplicate 1 unknown 0; answered 1 additional 0 late 0; reordered 0 independent 0
report-replies : (snapshot_from 1 report).replies ≡ record {
  totals = record { requested = 1; unique = 1; duplicate = 1; unknown = 0 };
  answers = record { answered = 1; additional = 0; late = 0; satisfied = 1 };
  numbers = record { last = Some 7; highest = Some 7; reordered = 0; independent = 0 };
  evicted = record { probes = 0; replies = 0; unanswered = 0 };
}
unfolding count events after_reply reply_class ready last_accepted held has_key has accepted rememberings distinct without replies highest_reflector probes_evicted evicted_unanswered oldest
report-replies = refl

-- unobserved 0 thousandths 0
report-lost : ((snapshot_from 1 report).unobserved ≡ 0) × ((snapshot_from 1 report).thousandths ≡ Some 0)
unfolding count events after_reply reply_class ready last_accepted held has_key has accepted rememberings distinct without replies
report-lost = (refl, refl)

-- a link that sent nothing: requested 0 unobserved 0 thousandths -
silent_lost : ((snapshot_from 1 []).unobserved ≡ 0) × ((snapshot_from 1 []).thousandths ≡ None)
unfolding count events
silent_lost = (refl, refl)

-- followup 0 matched 0 repeated 0 unmatched 0 ambiguous 0 unavailable 0
report-follow_ups : (snapshot_from 1 report).follow.counts ≡ record { observations = 0; matched = 0; repeated = 0; unmatched = 0; ambiguous = 0; unavailable = 0 }
unfolding count events after_reply reply_class ready last_accepted held has_key has accepted rememberings distinct without
report-follow_ups = refl

-- direct 0 unavailable 0 discontinuities 0 reordered 0; missing forward - reverse -
report-direct : (snapshot_from 1 report).direct
    ≡ record { counts = record { observations = 0; unavailable = 0; discontinuities = 0; reordered = 0; exceeded = false }; anchor = None; latest = None; spans = no_spans }
unfolding count window spans anchor latest_transmit events after_reply reply_class ready last_accepted held has_key has accepted rememberings distinct without
report-direct = refl

-- state active losses 0
report_state : ((monitor_from 2 1000 report).summary.state ≡ Active) × ((monitor_from 2 1000 report).summary.consecutive_losses ≡ 0)
unfolding monitor_from enters same insert remove events after_reply reply_class ready last_accepted held has_key has accepted rememberings distinct without
report_state = (refl, refl)

-- rtt samples 1 min 50 max 50
report-trips : round_trip_figures capacity report ≡ record { samples = 1; sum = pos 50; minimum = Some (pos 50); maximum = Some (pos 50) }
unfolding round_trips total least greatest events after_reply reply_class ready last_accepted held has_key has accepted rememberings distinct without
report-trips = refl
