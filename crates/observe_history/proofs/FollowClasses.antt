-- The class of a follow-up by the slot in the rooms is its class by the history, and so are its count, its delay and its estimates.
-- Assumes nothing.
use Rattle.std.specs.Prelude.{Option, Some, None, Ok, Err}
use mathlib.Core.Path.{◌≡◌, refl}
use mathlib.Core.Bool.{Bool, true, false, ◌||◌, ◌&&◌, cond}
use mathlib.Core.List.{List, ◌∷◌}
use Prim.Native.Nat.{ℕ, suc}
use native.Mathlib.Numerals.{add-one}
use lib.Dec.{eqb}
use lib.IntN.{ℤ}
use Rattle.call_types.specs.declared.FollowUpTelemetry.{FollowUpTelemetry}
use Rattle.correlation.specs.declared.Slot.{Slot}
use Rattle.correlation.specs.declared.ReplyRecord.{ReplyRecord}
use Rattle.correlation.specs.declared.follow.Miss.TheVariants as miss
use Rattle.correlation.specs.Class.{Class, by_record, first, found_by, by_times, converted_by, class_of, delay_of}
use Rattle.follow_ups.specs.declared.FollowCounts.{FollowCounts as Counts}
use Rattle.follow_ups.specs.Followed.{counted}
use Rattle.history.specs.Counting.{tally, present}
use Rattle.history.specs.Given.{time_of}
use Rattle.history.specs.FollowUps.{Slot as HistorySlot, free, taken, FollowClass, unavailable, ambiguous, unmatched, repeated, matched, same_follow, by_slot, follow_class, Measured, with_times, with_slot}
use Rattle.observe_history.specs.FollowUps.{pair_of, kept_of, slot_from}

-- the class in the history's words
abbrev pub class_from : Class → FollowClass
class_from (Err miss.Unavailable) = unavailable
class_from (Err miss.Ambiguous) = ambiguous
class_from (Err miss.Unmatched) = unmatched
class_from (Err miss.Repeated) = repeated
class_from (Ok m) = matched

-- a matched one is one measurement more
abbrev pub measured_more : Class → ℤ → List Measured → List Measured
measured_more (Err why) offset ms = ms
measured_more (Ok m) offset ms = record { delay_ns = delay_of m.t4 m.t3 offset; quality = pair_of m.quality } ∷ ms

-- the class of a follow-up, of a slot; own and offset are those of the observation that carries it
abbrev pub class_in : FollowUpTelemetry → ℕ → ℤ → Slot → Class
class_in f own offset s = class_of (found_by f.unknown f.timestamp f.sequence own s) f.timestamp offset

-- ---- by the times

by-times : (r : ReplyRecord) (t4 t3 : Option ℤ) → class_from (by_times r t4 t3) ≡ cond (present (time_of t4) && present (time_of t3)) matched unavailable
by-times r None t3 = refl
by-times r (Some a) None = refl
by-times r (Some a) (Some b) = refl

-- ---- by the slot: whether its count is 0, and whether it is 1

abbrev slot_by : Bool → ℕ → Option ReplyRecord → Bool → HistorySlot
slot_by none? n u c = cond none? free (taken n (kept_of u) c)

in_slot : (z o : Bool) (n : ℕ) (c : Bool) (u : Option ReplyRecord) (w : ℕ) (offset : ℤ) → eqb n 1 ≡ o
    → class_from (class_of (first false false false z o (by_record c u)) w offset) ≡ by_slot w offset (slot_by z n u c)
in_slot true o n c u w offset e = refl
in_slot false false n c None w offset e = refl
in_slot false false n c (Some r) w offset e = rw e
in_slot false true n c None w offset e = refl
in_slot false true n true (Some r) w offset e = rw e
in_slot false true n false (Some r) w offset e = rw e (by-times r r.t4 (converted_by r w offset))

pub class_same : (f : FollowUpTelemetry) (own : ℕ) (offset : ℤ) (s : Slot) → class_from (class_in f own offset s) ≡ follow_class f own offset (slot_from s)
unfolding found_by follow_class
class_same f own offset s = go f.unknown (eqb f.timestamp 0) (eqb f.sequence own)
  where
    go : (a b d : Bool) → class_from (class_of (first a b d (eqb s.count 0) (eqb s.count 1) (by_record s.corrected s.unique)) f.timestamp offset)
        ≡ cond (a || b) unavailable (cond d ambiguous (by_slot f.timestamp offset (slot_from s)))
    go true b d = refl
    go false true d = refl
    go false false true = refl
    go false false false = in_slot (eqb s.count 0) (eqb s.count 1) s.count s.corrected s.unique f.timestamp offset refl

-- ---- what a matched one measures

times-measured : (r : ReplyRecord) (t4 t3 : Option ℤ) (offset : ℤ) (ms : List Measured)
    → cond (same_follow matched (cond (present (time_of t4) && present (time_of t3)) matched unavailable)) (with_times (time_of t4) (time_of t3) offset (pair_of r.quality) ms) ms
    ≡ measured_more (by_times r t4 t3) offset ms
times-measured r None t3 offset ms = refl
times-measured r (Some a) None offset ms = refl
times-measured r (Some a) (Some b) offset ms = refl

slot_measured : (z o : Bool) (n : ℕ) (c : Bool) (u : Option ReplyRecord) (w : ℕ) (offset : ℤ) (ms : List Measured) → eqb n 1 ≡ o
    → cond (same_follow matched (by_slot w offset (slot_by z n u c))) (with_slot (slot_by z n u c) w offset ms) ms
    ≡ measured_more (class_of (first false false false z o (by_record c u)) w offset) offset ms
slot_measured true o n c u w offset ms e = refl
slot_measured false false n c None w offset ms e = refl
slot_measured false false n c (Some r) w offset ms e = rw e
slot_measured false true n c None w offset ms e = refl
slot_measured false true n true (Some r) w offset ms e = rw e
slot_measured false true n false (Some r) w offset ms e = rw e (times-measured r r.t4 (converted_by r w offset) offset ms)

pub measured-same : (f : FollowUpTelemetry) (own : ℕ) (s : Slot) (offset : ℤ) (ms : List Measured)
    → cond (same_follow matched (follow_class f own offset (slot_from s))) (with_slot (slot_from s) f.timestamp offset ms) ms ≡ measured_more (class_in f own offset s) offset ms
unfolding found_by follow_class
measured-same f own s offset ms = go f.unknown (eqb f.timestamp 0) (eqb f.sequence own)
  where
    go : (a b d : Bool)
        → cond (same_follow matched (cond (a || b) unavailable (cond d ambiguous (by_slot f.timestamp offset (slot_from s))))) (with_slot (slot_from s) f.timestamp offset ms) ms
        ≡ measured_more (class_of (first a b d (eqb s.count 0) (eqb s.count 1) (by_record s.corrected s.unique)) f.timestamp offset) offset ms
    go true b d = refl
    go false true d = refl
    go false false true = refl
    go false false false = slot_measured (eqb s.count 0) (eqb s.count 1) s.count s.corrected s.unique f.timestamp offset ms refl

-- ---- its count

abbrev pub counts_by : FollowClass → Counts → Counts
counts_by x n = record {
  observations = suc n.observations;
  matched = tally (same_follow matched x) n.matched;
  repeated = tally (same_follow repeated x) n.repeated;
  unmatched = tally (same_follow unmatched x) n.unmatched;
  ambiguous = tally (same_follow ambiguous x) n.ambiguous;
  unavailable = tally (same_follow unavailable x) n.unavailable;
}

pub counts_same : (k : Class) (n : Counts) → counted k n ≡ counts_by (class_from k) n
counts_same (Err miss.Unavailable) n = rw (add-one n.observations, add-one n.unavailable)
counts_same (Err miss.Ambiguous) n = rw (add-one n.observations, add-one n.ambiguous)
counts_same (Err miss.Unmatched) n = rw (add-one n.observations, add-one n.unmatched)
counts_same (Err miss.Repeated) n = rw (add-one n.observations, add-one n.repeated)
counts_same (Ok m) n = rw (add-one n.observations, add-one n.matched)
