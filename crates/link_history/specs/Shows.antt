-- What a link shows, from the plain list h of its served calls, newest first (crate history): every count, figure and answer.
-- Assumes nothing.
use Rattle.std.specs.Prelude.{◌≡◌, Bool, true, false, not, ◌&&◌, List, ℕ, eqb, ltb, Some, None, Option, Ok}
use Rattle.limits.specs.Limits.{capacity}
use Rattle.call_types.specs.declared.ReplyKey.{ReplyKey}
use Rattle.call_types.specs.declared.Reply.{Reply}
use Rattle.call_types.specs.declared.Call.{Call}
use Rattle.call_types.specs.declared.Call.TheVariants.{Sent, Accept, Observe, Advance, Idle}
use Rattle.history.specs.Counting.{has}
use Rattle.history.specs.Given.{packet_of}
use Rattle.history.specs.Ledger.{ReplyCounts, CallTest, count, events, held, replies, awaiting, answer, reply_counts, unobserved, thousandths}
use Rattle.history.specs.DirectLoss.{direct_counts}
use Rattle.history.specs.FollowUps.{follow_counts}
use Rattle.history.specs.Figures.{round_trip_figures, delay_figures, clock_quality}
use Rattle.reply_history.specs.Fits.{KeyFits}
use Rattle.reply_history.specs.Follows.{replies_in, awaits_in, as_accepted}
use Rattle.observe_history.specs.Direct.{as_direct_counts, window_of, since, summary_from}
use Rattle.observe_history.specs.RoundTrips.{delays_from, shown_from}
use Rattle.observe_history.specs.FollowUps as observe_history
use Rattle.observe_history.specs.Follows.{follow_shown_from}
use Rattle.ledger_state.specs.declared.Counts.{Counts}
use Rattle.ledger_snapshot.specs.declared.Snapshot.{Snapshot}
use Rattle.ledger_state.specs.BurstWait.{burst_wait}
use Rattle.ledger_snapshot.specs.Snapshot.{snapshot_of}
use Rattle.ledger_steps.specs.declared.Accepted.{Accepted}
use Rattle.ledger_steps.specs.Refusals.{awaits_key}
use Rattle.ledger_steps.specs.Calls.{answered_to}
use Rattle.link_steps.specs.Steps.{LinkStand, accept_result, refuses, after}

-- ---- the counts

-- requests without their reply
abbrev pub lost_of : ReplyCounts → ℕ
lost_of c = unobserved c.requested c.satisfied

-- the figure of loss, or none, as the snapshot holds it
abbrev pub thousandths_from : Option ℕ → Option ℕ
thousandths_from None = None
thousandths_from (Some n) = Some n

-- every field of the snapshot
abbrev pub snapshot_from : (copies : ℕ) → List Call → Snapshot
snapshot_from copies h = record {
  replies = replies_in capacity copies h;
  unobserved = lost_of (reply_counts capacity copies h);
  thousandths = thousandths_from (thousandths (reply_counts capacity copies h).requested (lost_of (reply_counts capacity copies h)));
  rtt = shown_from (round_trip_figures capacity h);
  direct = summary_from capacity h;
  follow = follow_shown_from capacity copies h;
}

-- every count of the state: the sums and extremes behind what the snapshot shows too
abbrev pub counts_from : (copies : ℕ) → List Call → Counts
counts_from copies h = record {
  replies = replies_in capacity copies h;
  rtt = delays_from (round_trip_figures capacity h);
  direct = record { counts = as_direct_counts (direct_counts capacity h); window = window_of (since capacity h) };
  follow = record {
    counts = observe_history.as_follow_counts (follow_counts capacity copies h);
    delay = delays_from (delay_figures capacity copies h);
    quality = clock_quality capacity copies h;
  };
}

-- `needs_burst_wait`: more than one copy, and some request is not satisfied
abbrev pub wait_from : (copies : ℕ) → List Call → Bool
wait_from copies h = ltb 1 copies && ltb (reply_counts capacity copies h).satisfied (reply_counts capacity copies h).requested

-- "sent, accept and observe calls already served (these three only)"
abbrev pub is_counted : CallTest
is_counted (Sent s) es = true
is_counted (Accept a) es = true
is_counted (Observe o) es = true
is_counted (Advance t) es = false
is_counted Idle es = false

-- how many of those were served
abbrev pub calls_in : List Call → ℕ
calls_in h = count capacity is_counted h

-- ---- the answers

-- `accept`: duplicate, unknown, or the packet and the ordinal of a unique reply
abbrev pub accepted_from : List Call → Reply → Accepted
accepted_from h a = as_accepted (answer capacity (events capacity h) a.key (packet_of a.pending))

-- `answered`: the probe is held, and has a reply since it was remembered
abbrev pub answered_from : List Call → ℕ → Bool
answered_from h q = has (held capacity (events capacity h)) q && not (eqb (replies q (events capacity h)) 0)

-- whether this key awaits its observe
abbrev pub awaits_from : List Call → ReplyKey → Bool
awaits_from h key = awaits_in (awaiting (events capacity h)) key

-- WHAT THE LEDGER OF A LINK SHOWS IS WHAT THE SERVED CALLS h CALL FOR: each count, each figure, and the answer of each call to come.
pub record LedgerShows (copies : ℕ) (h : List Call) (k : LinkStand) : Type 0 where
  pub snapshot : snapshot_of k.link.ledger ≡ snapshot_from copies h
  pub counts : k.link.ledger.counts ≡ counts_from copies h
  pub calls : k.link.ledger.calls ≡ calls_in h
  pub waits : burst_wait k.link.ledger ≡ wait_from copies h
  pub awaits : (key : ReplyKey) → awaits_key k.link.ledger k.rooms.keys key ≡ awaits_from h key
  pub answered : (q : ℕ) → answered_to k.link.ledger k.rooms.probes k.rooms.links q ≡ Ok (answered_from h q)
  pub accepted : (a : Reply) → KeyFits a.key → refuses k (Accept a) ≡ 0
      → (accept_result k a).answer ≡ Ok ((after k (Accept a)).link.ledger, accepted_from h a)
