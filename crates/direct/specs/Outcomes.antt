-- What one reply's counters make of the direct measurement: an outcome for each sentence of document 01, 'Direct loss', in its order.
-- N is how many offsets are remembered.
use Rattle.std.specs.Prelude.{ℕ, ◌+◌, ◌<◌, max, Bool, true, false, cond, ◌&&◌, ◌==◌, nat_lt, Option, Some, None}
use Rattle.limits.specs.Limits.{count_bound}
use Rattle.call_types.specs.declared.CounterPoint.{CounterPoint}
use Rattle.direct.specs.declared.Counts.{Counts}
use Rattle.direct.specs.declared.Epoch.{Epoch}
use Rattle.direct.specs.declared.Direct.{Direct}
use Rattle.direct.specs.declared.Offsets.{Offsets}
use Rattle.direct.specs.declared.Offsets.TheVariants.{Kept, Begun, Added, Cleared}
use Rattle.direct.specs.declared.Step.{Step}
use Rattle.direct.specs.Offsets.{sender_offset, received_offset, transmit_offset, jumps}

-- ---- the counts

-- one more that is unavailable
abbrev pub one_unavailable : Counts → Counts
one_unavailable n = record {
  observations = n.observations;
  unavailable = n.unavailable + 1;
  discontinuities = n.discontinuities;
  reordered = n.reordered;
  exceeded = n.exceeded;
}

-- "Anything else is an observation."
abbrev pub one_observed : Counts → Counts
one_observed n = record {
  observations = n.observations + 1;
  unavailable = n.unavailable;
  discontinuities = n.discontinuities;
  reordered = n.reordered;
  exceeded = n.exceeded;
}

-- one discontinuity more
abbrev pub one_discontinuity : Counts → Counts
one_discontinuity n = record {
  observations = n.observations;
  unavailable = n.unavailable;
  discontinuities = n.discontinuities + 1;
  reordered = n.reordered;
  exceeded = n.exceeded;
}

-- one more that is reordered
abbrev pub one_reordered : Counts → Counts
one_reordered n = record {
  observations = n.observations;
  unavailable = n.unavailable;
  discontinuities = n.discontinuities;
  reordered = n.reordered + 1;
  exceeded = n.exceeded;
}

-- "history exceeded (stays set)"
abbrev pub history_exceeded : Counts → Counts
history_exceeded n = record {
  observations = n.observations;
  unavailable = n.unavailable;
  discontinuities = n.discontinuities;
  reordered = n.reordered;
  exceeded = true;
}

-- ---- the window

-- "it becomes the anchor, offset 0 is seen"
abbrev pub anchored_at : CounterPoint → Epoch
anchored_at c = record { anchor = c; latest = c; sender = 0; received = 0; seen = 1 }

-- the highest transmit offset: that of the latest transmit point
abbrev pub highest : Epoch → ℕ
highest e = transmit_offset e.anchor e.latest

-- "an offset below the highest is reordered"; "the sender maximum always moves"
abbrev pub below : Epoch → CounterPoint → Epoch
below e c = record {
  anchor = e.anchor;
  latest = e.latest;
  sender = max e.sender (sender_offset e.anchor c);
  received = e.received;
  seen = e.seen + 1;
}

-- "one above also moves the received maximum"
abbrev pub above : Epoch → CounterPoint → Epoch
above e c = record {
  anchor = e.anchor;
  latest = c;
  sender = max e.sender (sender_offset e.anchor c);
  received = max e.received (received_offset e.anchor c);
  seen = e.seen + 1;
}

-- by whether the transmit offset is below the highest
abbrev pub moved_by : Bool → Epoch → CounterPoint → Epoch
moved_by true e c = below e c
moved_by false e c = above e c

-- these counts and this window, and what becomes of the seen offsets
abbrev pub step : Counts → Option Epoch → Offsets → Step
step n w o = record { direct = record { counts = n; window = w }; offsets = o }

-- ---- the outcomes

-- "Sender count other than the ordinal: unavailable, and its offsets are not seen." Also where there is no ordinal
abbrev pub mismatched : Counts → Option Epoch → Step
mismatched n w = step (one_unavailable n) w Kept

-- "Without an anchor: both reflector counts 0, unavailable"
abbrev pub zeros : Counts → Step
zeros n = step (one_unavailable (one_observed n)) None Kept

-- "else it becomes the anchor, offset 0 is seen and no missing is shown"
abbrev pub anchored : Counts → CounterPoint → Step
anchored n c = step (one_observed n) (Some (anchored_at c)) Begun

-- "discontinuity; anchor and estimates go. This packet doesn't become the anchor."
abbrev pub broken : Counts → Step
broken n = step (one_discontinuity (one_observed n)) None Cleared

-- "Seen transmit offset: unavailable and discontinuity, cleared likewise."
abbrev pub seen_again : Counts → Step
seen_again n = step (one_discontinuity (one_unavailable (one_observed n))) None Cleared

-- "4,096 offsets seen: history exceeded (stays set), cleared likewise."
abbrev pub full : Counts → Step
full n = step (history_exceeded (one_observed n)) None Cleared

-- "Else an offset below the highest is reordered": it is an observation, and its offset is seen
abbrev pub was_reordered : Counts → Epoch → CounterPoint → Step
was_reordered n e c = step (one_reordered (one_observed n)) (Some (below e c)) (Added (transmit_offset e.anchor c))

-- "one above": it is an observation, the latest point, and its offset is seen
abbrev pub advanced : Counts → Epoch → CounterPoint → Step
advanced n e c = step (one_observed n) (Some (above e c)) (Added (transmit_offset e.anchor c))

-- ---- which of them

-- without an anchor, by whether both reflector counts are 0
abbrev pub without_anchor : Bool → Counts → CounterPoint → Step
without_anchor true n c = zeros n
without_anchor false n c = anchored n c

-- the first that holds: an offset at 2^31 or more; a seen transmit offset; all offsets seen; below the highest; else
abbrev pub with_anchor : Bool → Bool → Bool → Bool → Counts → Epoch → CounterPoint → Step
with_anchor true again all lower n e c = broken n
with_anchor false true all lower n e c = seen_again n
with_anchor false false true lower n e c = full n
with_anchor false false false true n e c = was_reordered n e c
with_anchor false false false false n e c = advanced n e c

-- both reflector counts are 0
abbrev pub both_zero : CounterPoint → Bool
both_zero c = c.received.0 == 0 && c.transmitted.0 == 0

module _ (N : ℕ) where
  -- by whether there is an anchor, for a sender count that is the ordinal; again: its offset was seen
  abbrev pub in_window : Counts → Option Epoch → CounterPoint → Bool → Step
  in_window n None c again = without_anchor (both_zero c) n c
  in_window n (Some e) c again =
      with_anchor (jumps e.anchor c) again (e.seen == N) (nat_lt (transmit_offset e.anchor c) (highest e)) n e c

  -- by whether the sender count is the ordinal
  abbrev pub by_ordinal : Bool → Counts → Option Epoch → CounterPoint → Bool → Step
  by_ordinal true n w c again = in_window n w c again
  by_ordinal false n w c again = mismatched n w

  -- the counters c of a reply whose probe has the ordinal; again: whether their transmit offset was seen
  unfoldable pub recorded : Direct → CounterPoint → Option ℕ → Bool → Step
  recorded d c None again = mismatched d.counts d.window
  recorded d c (Some m) again = by_ordinal (c.sender.0 == m) d.counts d.window c again

-- the transmit offset that is looked for among those seen: without an anchor none is seen, and any will do
abbrev pub sought_in : Option Epoch → CounterPoint → ℕ
sought_in None c = 0
sought_in (Some e) c = transmit_offset e.anchor c

-- a fresh measurement
abbrev pub fresh_direct : Direct
fresh_direct = record {
  counts = record { observations = 0; unavailable = 0; discontinuities = 0; reordered = 0; exceeded = false };
  window = None;
}

-- refusal 4: no count is at 2^63 or beyond
abbrev pub counts_in_bounds : Counts → Bool
counts_in_bounds n =
    nat_lt n.observations count_bound && nat_lt n.unavailable count_bound && nat_lt n.discontinuities count_bound && nat_lt n.reordered count_bound

-- what that test shows
pub record InBounds (n : Counts) : Type 0 where
  pub observed : n.observations < count_bound
  pub unavailable : n.unavailable < count_bound
  pub discontinued : n.discontinuities < count_bound
  pub reordered : n.reordered < count_bound

-- how many offsets are seen
abbrev pub seen_in : Option Epoch → ℕ
seen_in None = 0
seen_in (Some e) = e.seen
