-- What a class needs of a slot, and what one record more does to it. Assumes nothing.
use Rattle.std.specs.Prelude.{Bool, true, false, not, ◌||◌, ◌&&◌, cond, ℕ, ◌+◌, eqb, ltb, ℤ, ◌+ℤ◌, Some, None, Option}
use Rattle.estimate.specs.declared.ClockFormat.{ClockFormat}
use Rattle.call_types.specs.declared.FollowUpTelemetry.{FollowUpTelemetry}
use Rattle.call_types.specs.declared.ReplyObservation.{ReplyObservation}
use Rattle.history.specs.FollowUps.{Kept, Slot, free, taken}
use Rattle.recount_time.specs.Eras.{says_time}
use Rattle.recount_follow.specs.declared.Left.{Left}
use Rattle.recount_follow.specs.declared.Left.TheVariants.{Nothing, Untimed, Timed}
use Rattle.recount_follow.specs.declared.Brief.{Brief}
use Rattle.recount_follow.specs.declared.Class.{Class}
use Rattle.recount_follow.specs.declared.Class.TheVariants as class

-- the number of a class
abbrev pub number_of : Class → ℕ
number_of class.Unavailable = 0
number_of class.Ambiguous = 1
number_of class.Unmatched = 2
number_of class.Repeated = 3
number_of class.Matched = 4

-- a record, by whether it has T4
abbrev pub left_of : Option ℤ → ClockFormat → (reference : ℤ) → Left
left_of None format reference = Untimed
left_of (Some t4) format reference = Timed format reference

-- of a slot's record
abbrev pub left_in : Option Kept → Left
left_in None = Nothing
left_in (Some r) = left_of r.t4 r.format r.reference

-- of a slot
abbrev pub brief_of : Slot → Brief
brief_of free = record { there = false; count = 0; left = Nothing; corrected = false }
brief_of (taken n r c) = record { there = true; count = n; left = left_in r; corrected = c }

-- the class by the only record: 0 unavailable, 1 ambiguous, 4 matched
abbrev pub by_record : (timestamp : ℕ) → (offset : ℤ) → Left → ℕ
by_record timestamp offset Nothing = 1
by_record timestamp offset Untimed = 0
by_record timestamp offset (Timed format reference) = cond (says_time format timestamp (reference +ℤ offset)) 4 0

-- there is a record
abbrev pub has_record : Left → Bool
has_record Nothing = false
has_record Untimed = true
has_record (Timed format reference) = true

-- the class by the slot: 2 unmatched, 3 repeated
abbrev pub by_slot : (timestamp : ℕ) → (offset : ℤ) → Brief → ℕ
by_slot timestamp offset b =
    cond (not b.there) 2
    (cond (not (has_record b.left)) 1
    (cond (not (eqb b.count 1)) 1
    (cond b.corrected 3 (by_record timestamp offset b.left))))

-- the class
abbrev pub class_of : FollowUpTelemetry → (own : ℕ) → (offset : ℤ) → Brief → ℕ
class_of f own offset b = cond (f.unknown || eqb f.timestamp 0) 0 (cond (eqb f.sequence own) 1 (by_slot f.timestamp offset b))

-- a matched follow-up corrects the slot of its sequence
abbrev pub followed_by : FollowUpTelemetry → (own : ℕ) → (offset : ℤ) → (number : ℕ) → Brief → Brief
followed_by f own offset number b =
    cond (eqb 4 (class_of f own offset b) && eqb number f.sequence) (record { there = b.there; count = b.count; left = b.left; corrected = b.there }) b

-- where there is one
abbrev pub followed : Option FollowUpTelemetry → (own : ℕ) → (offset : ℤ) → (number : ℕ) → Brief → Brief
followed None own offset number b = b
followed (Some f) own offset number b = followed_by f own offset number b

-- what an observation leaves
abbrev pub left_time : Option ℤ → ClockFormat → (reference : ℤ) → Left
left_time None format reference = Untimed
left_time (Some z) format reference = Timed format reference

-- nothing if copies exceed 1 and sender equals reflector
abbrev pub left_by : ℕ → ReplyObservation → Left
left_by copies o = cond (ltb 1 copies && eqb o.key.sender o.key.reflector) Nothing (left_time o.t4 o.format o.reference)

-- the own slot is made, or rises
abbrev pub raised : Left → Brief → Brief
raised left b =
    cond b.there (record { there = true; count = b.count + 1; left = Nothing; corrected = b.corrected }) (record { there = true; count = 1; left = left; corrected = false })

-- an observation: its follow-up first, then its own slot
abbrev pub observed_by : ReplyObservation → (copies number : ℕ) → Brief → Brief
observed_by o copies number b =
    cond (eqb number o.key.reflector) (raised (left_by copies o) (followed o.follow o.key.reflector o.offset number b))
    (followed o.follow o.key.reflector o.offset number b)

-- one record more
abbrev pub slot_next : Option ReplyObservation → (copies number : ℕ) → Brief → Brief
slot_next None copies number b = b
slot_next (Some o) copies number b = observed_by o copies number b
