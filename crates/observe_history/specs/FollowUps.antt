-- What it means that the follow-ups of the state and the correlation slots in the rooms follow from the plain list of served calls
-- (crate history, newest first). N is how many keys are held. Assumes nothing.
use Rattle.correlation.specs.declared.ReplyRecord.{ReplyRecord}
use Rattle.estimate.specs.declared.ErrorEstimate.{ErrorEstimate}
use Rattle.std.specs.Prelude.{◌≡◌, Bool, true, false, cond, List, [], ℕ, ◌<◌, eqb, get_or, Some, None, Option}
use Rattle.estimate.specs.Wire.{estimate_of}
use Rattle.call_types.specs.declared.Call.{Call}
use Rattle.correlation.specs.declared.Slot.{Slot}
use Rattle.correlation.specs.Words.{slot_of}
use Rattle.correlation.specs.Fits.{RecordFits}
use Rattle.key_ring.specs.Rows.{is_observed, slot_in, Counted}
use Rattle.key_ring.specs.Table.{Table, table_of, newest_slot, rows_of}
use Rattle.follow_ups.specs.declared.FollowCounts.{FollowCounts as Counts}
use Rattle.follow_ups.specs.declared.FollowUps.{FollowUps}
use Rattle.history.specs.Given.{EstimatePair, time_of}
use Rattle.history.specs.Ledger.{unique, events}
use Rattle.history.specs.FollowUps as history
use Rattle.history.specs.FollowUps.{Kept, free, taken, slot_at, FollowCounts, follow_counts}
use Rattle.history.specs.Figures.{delay_figures, clock_quality}
use Rattle.ledger_steps.specs.Rooms.{LedgerStand}
use Rattle.observe_history.specs.RoundTrips.{delays_from}

-- ---- a slot of the rooms, in the history's words

-- the estimates of a record
abbrev pub pair_of : Option (ℕ × ℕ) → Option EstimatePair
pair_of None = None
pair_of (Some (s, r)) = Some (record { sender = estimate_of s; reflector = estimate_of r })

-- its record, or none
abbrev pub kept_of : Option ReplyRecord → Option Kept
kept_of None = None
kept_of (Some r) = Some (record { t4 = time_of r.t4; format = r.format; reference = r.reference; quality = pair_of r.quality })

-- a slot of count 0 is free
abbrev pub slot_from : Slot → history.Slot
slot_from s = cond (eqb s.count 0) free (taken s.count (kept_of s.unique) s.corrected)

-- the slot of the reflector number r
abbrev pub slot_held : ℕ → Table → ℕ → Slot
slot_held N t r = slot_of (slot_in (rows_of N t) r)

-- the counts in the code's type
abbrev pub as_follow_counts : FollowCounts → Counts
as_follow_counts n = record {
  observations = n.observations;
  matched = n.matched;
  repeated = n.repeated;
  unmatched = n.unmatched;
  ambiguous = n.ambiguous;
  unavailable = n.unavailable;
}

-- ---- what follows from the served calls

-- the counts, the delays and the clock quality of the follow-ups
pub record FiguresFollow (N copies : ℕ) (h : List Call) (f : FollowUps) : Type 0 where
  pub counts : f.counts ≡ as_follow_counts (follow_counts N copies h)
  pub delay : f.delay ≡ delays_from (delay_figures N copies h)
  pub quality : f.quality ≡ clock_quality N copies h

-- the slot of each reflector number; and what keeps them so: each record fits its words, no count exceeds the observed keys of its number,
-- and the key that awaits its observe is not observed
pub record SlotsFollow (N copies : ℕ) (h : List Call) (t : Table) (awaits : Bool) : Type 0 where
  pub slots : (r : ℕ) → slot_from (slot_held N t r) ≡ slot_at N copies (events N h) r
  pub fit : (r : ℕ) → RecordFits (slot_held N t r).unique
  pub counted : Counted (rows_of N t)
  pub unobserved : awaits ≡ true → is_observed (get_or t.slots (newest_slot N t.ring) []) ≡ false

-- both, of a ledger with its rooms
pub record FollowsFollow (N copies : ℕ) (h : List Call) (s : LedgerStand) : Type 0 where
  pub figures : FiguresFollow N copies h s.ledger.counts.follow
  pub slots : SlotsFollow N copies h (table_of s.rooms.keys s.rooms.slots s.rooms.links s.ledger.tables.keys) s.ledger.tables.awaits

-- the types of an observation's estimates: a multiplier has eight bits
abbrev pub QualityFits : Option (ErrorEstimate × ErrorEstimate) → Type 0
QualityFits None = Unit
QualityFits (Some (s, r)) = (s.multiplier < 256) × (r.multiplier < 256)
