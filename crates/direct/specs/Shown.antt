-- What the direct measurement shows: `DirectSummary`, from the counts and the window. Document 01: "Forward missing is sender maximum less
-- received maximum, absent if negative. Reverse missing is the highest offset less the seen offsets above 0." With the anchor alone no
-- missing is shown, and without an anchor nothing of a window.
use Rattle.call_types.specs.declared.CounterPoint.{CounterPoint}
use Rattle.std.specs.Prelude.{ℕ, ◌-◌, Bool, true, false, nat_lt, Option, Some, None}
use Rattle.direct.specs.declared.Counts.{Counts}
use Rattle.direct.specs.declared.Epoch.{Epoch}
use Rattle.direct.specs.declared.Direct.{Direct}
use Rattle.direct.specs.declared.summary.Spans.{Spans}
use Rattle.direct.specs.declared.summary.DirectSummary.{DirectSummary}
use Rattle.direct.specs.Outcomes.{highest}

-- a less b, absent if negative
abbrev pub less_by : Bool → ℕ → ℕ → Option ℕ
less_by true a b = None
less_by false a b = Some (a - b)

-- the same, where negative means that a is below b
abbrev pub less : ℕ → ℕ → Option ℕ
less a b = less_by (nat_lt a b) a b

-- nothing is shown: neither maximum nor offset nor missing
abbrev pub no_spans : Spans
no_spans = record { sent = None; received = None; forward = None; transmitted = None; replies = None; reverse = None }

-- of an epoch: the sender and the received maximum, the highest offset, the seen offsets above 0, and what is missing
abbrev pub epoch_spans : Epoch → Spans
epoch_spans e = record {
  sent = Some e.sender;
  received = Some e.received;
  forward = less e.sender e.received;
  transmitted = Some (highest e);
  replies = Some (e.seen - 1);
  reverse = less (highest e) (e.seen - 1);
}

-- with the anchor alone nothing is shown
abbrev pub spans_by : Bool → Epoch → Spans
spans_by true e = epoch_spans e
spans_by false e = no_spans

-- without an anchor nothing is shown; with one, once a second offset was seen
abbrev pub spans_of : Option Epoch → Spans
spans_of None = no_spans
spans_of (Some e) = spans_by (nat_lt 1 e.seen) e

-- the anchor's three counters, absent without an anchor
abbrev pub anchor_of : Option Epoch → Option CounterPoint
anchor_of None = None
anchor_of (Some e) = Some e.anchor

-- the three counters that have the highest transmit offset, absent without an anchor
abbrev pub latest_of : Option Epoch → Option CounterPoint
latest_of None = None
latest_of (Some e) = Some e.latest

-- all that is shown; the counts are as they stand, with or without an anchor
abbrev pub summary_of : Direct → DirectSummary
summary_of d = record { counts = d.counts; anchor = anchor_of d.window; latest = latest_of d.window; spans = spans_of d.window }
