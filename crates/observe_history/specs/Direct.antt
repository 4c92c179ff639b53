-- What it means that the direct measurement of the state and the room of its seen offsets follow from the plain list of served calls
-- (crate history, newest first). Assumes nothing.
use Rattle.std.specs.Prelude.{◌≡◌, List, [], ◌∷◌, ℕ, length, Some, None, Option}
use Rattle.call_types.specs.declared.CounterPoint.{CounterPoint}
use Rattle.call_types.specs.declared.Call.{Call}
use Rattle.direct.specs.declared.Counts.{Counts}
use Rattle.direct.specs.declared.Epoch.{Epoch}
use Rattle.direct.specs.declared.Direct.{Direct}
use Rattle.direct.specs.declared.summary.Spans.{Spans as ShownSpans}
use Rattle.direct.specs.declared.summary.DirectSummary.{DirectSummary}
use Rattle.direct.specs.Outcomes.{seen_in}
use Rattle.direct.specs.Shown.{no_spans}
use Rattle.offset_set.specs.Offsets as offset_set
use Rattle.offset_set.specs.Sound.{Sound}
use Rattle.history.specs.Ledger.{events}
use Rattle.history.specs.DirectLoss.{anchor_of, seen, sender_maximum, received_maximum, latest, window, Spans, spans, anchor, latest_transmit, DirectCounts, direct_counts}
use Rattle.ledger_steps.specs.Rooms.{LedgerStand}

-- ---- the window, of the list of the counters since the anchor

-- from the anchor a
abbrev pub epoch_of : CounterPoint → List CounterPoint → Epoch
epoch_of a w = record { anchor = a; latest = latest a w; sender = sender_maximum a w; received = received_maximum a w; seen = length w }

-- without counters there is no anchor; with them it is the oldest
abbrev pub window_of : List CounterPoint → Option Epoch
window_of [] = None
window_of (c ∷ w) = Some (epoch_of (anchor_of c w) (c ∷ w))

-- the transmit offsets since the anchor
abbrev pub seen_since : List CounterPoint → List ℕ
seen_since [] = []
seen_since (c ∷ w) = seen (anchor_of c w) (c ∷ w)

-- the counts in the code's type
abbrev pub as_direct_counts : DirectCounts → Counts
as_direct_counts n = record {
  observations = n.observations;
  unavailable = n.unavailable;
  discontinuities = n.discontinuities;
  reordered = n.reordered;
  exceeded = n.history_exceeded;
}

-- ---- what is shown

-- a number of packets, where it is shown
abbrev pub packets_of : Option ℕ → Option ℕ
packets_of None = None
packets_of (Some n) = Some n

-- the counters, where they are shown
abbrev pub point_of : Option CounterPoint → Option CounterPoint
point_of None = None
point_of (Some c) = Some c

-- the figures of the window: all of them or none
abbrev pub spans_shown : Option Spans → ShownSpans
spans_shown None = no_spans
spans_shown (Some s) = record {
  sent = Some s.sender_packets;
  received = Some s.reflector_received;
  forward = packets_of s.forward_missing;
  transmitted = Some s.reflector_transmitted;
  replies = Some s.replies_received;
  reverse = Some s.reverse-missing;
}

-- N: how many offsets are remembered
module _ (N : ℕ) (h : List Call) where
  -- the counters since the anchor
  abbrev pub since : List CounterPoint
  since = window N (events N h)

  -- the summary that the history calls for
  abbrev pub summary_from : DirectSummary
  summary_from = record {
    counts = as_direct_counts (direct_counts N h);
    anchor = point_of (anchor since);
    latest = point_of (latest_transmit since);
    spans = spans_shown (spans since);
  }

-- the seen offsets in their room, with the links of their chains: as many as the window says
abbrev pub offsets_of : Direct → List ℕ → List (List ℕ) → offset_set.OffsetSet
offsets_of d offsets links = offset_set.offset_set offsets links (seen_in d.window)

-- Counts, window and seen offsets are the history's, and the chains of the offsets are whole. by_number: which chain an offset is looked for in
pub record DirectFollows (N : ℕ) (by_number : ℕ → ℕ) (h : List Call) (d : Direct) (offsets : List ℕ) (links : List (List ℕ)) : Type 0 where
  pub counts : d.counts ≡ as_direct_counts (direct_counts N h)
  pub window : d.window ≡ window_of (since N h)
  pub seen : offset_set.seen N (offsets_of d offsets links) ≡ seen_since (since N h)
  pub sound : Sound N by_number (offsets_of d offsets links)

-- of a ledger with its rooms
abbrev pub DirectFollowsAt : ℕ → (ℕ → ℕ) → List Call → LedgerStand → Type 0
DirectFollowsAt N by_number h s = DirectFollows N by_number h s.ledger.counts.direct s.rooms.offsets s.rooms.links
