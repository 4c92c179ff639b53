-- What observes leave in the ledger follows from the plain list of served calls: the statement, of a ledger with its rooms.
-- N is how many keys and offsets are held; by_key and by_number say which chain is walked. Assumes nothing.
use Rattle.std.specs.Prelude.{◌≡◌, true, ◌&&◌, List, [], ◌∷◌, ℕ}
use Rattle.call_types.specs.declared.ReplyKey.{ReplyKey}
use Rattle.call_types.specs.declared.ReplyObservation.{ReplyObservation}
use Rattle.call_types.specs.declared.Call.{Call}
use Rattle.call_types.specs.declared.Call.TheVariants.{Sent, Accept, Observe, Advance, Idle}
use Rattle.ranges.specs.Ranges.{in_range}
use Rattle.key_ring.specs.Table.{newest_is}
use Rattle.follow_ups.specs.declared.summary.FollowUpSummary.{FollowUpSummary}
use Rattle.ledger_steps.specs.Rooms.{LedgerStand}
use Rattle.history.specs.FollowUps.{follow_counts}
use Rattle.history.specs.Figures.{delay_figures, clock_quality}
use Rattle.reply_history.specs.Stands.{stepped_all}
use Rattle.observe_history.specs.Direct.{DirectFollowsAt}
use Rattle.observe_history.specs.RoundTrips.{shown_from, RoundTripsFollowAt}
use Rattle.observe_history.specs.FollowUps.{as_follow_counts, QualityFits, FollowsFollow}

-- ---- served

-- what refusals 1 and 2 leave of an observe, and what the types of its estimates say
pub record ObserveServed (N : ℕ) (s : LedgerStand) (o : ReplyObservation) : Type 0 where
  pub ranged : in_range o ≡ true
  pub awaiting : (s.ledger.tables.awaits && newest_is N s.rooms.keys s.ledger.tables.keys o.key) ≡ true
  pub quality-fits : QualityFits o.quality

-- a call, of the ledger that it was made to
abbrev pub ServedAt : ℕ → LedgerStand → Call → Type 0
ServedAt N s (Sent p) = Unit
ServedAt N s (Accept a) = Unit
ServedAt N s (Observe o) = ObserveServed N s o
ServedAt N s (Advance t) = Unit
ServedAt N s Idle = Unit

-- each call of a history, at its moment
unfoldable pub AllServed : (N : ℕ) → (ReplyKey → ℕ) → (ℕ → ℕ) → LedgerStand → List Call → Type 0
AllServed N by_key by_number s [] = Unit
AllServed N by_key by_number s (c ∷ h) = ServedAt N (stepped_all N by_key by_number s h) c × AllServed N by_key by_number s h

-- ---- what follows

-- WHAT OBSERVES LEAVE FOLLOWS FROM THE SERVED CALLS: direct loss, round trips, follow-ups.
pub record ObservesFollow (N : ℕ) (by_number : ℕ → ℕ) (copies : ℕ) (h : List Call) (s : LedgerStand) : Type 0 where
  pub direct : DirectFollowsAt N by_number h s
  pub round_trips : RoundTripsFollowAt N h s
  pub follow_ups : FollowsFollow N copies h s

-- the summary of follow-ups that the history calls for
abbrev pub follow_shown_from : (N copies : ℕ) → List Call → FollowUpSummary
follow_shown_from N copies h = record {
  counts = as_follow_counts (follow_counts N copies h);
  delay = shown_from (delay_figures N copies h);
  quality = clock_quality N copies h;
}
