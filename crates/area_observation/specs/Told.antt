-- What `observe` is told of a reply's extension area: the counters and the follow-up of its items. RFC 8972, section 4, says what the flags
-- that the reflector set mean to the sender; of two items of one type that count, the first does. Assumes nothing.
use Rattle.area_observation.specs.declared.Sighting.{Sighting}
use Rattle.call_types.specs.declared.CounterPoint.{CounterPoint}
use Rattle.std.specs.Prelude.{Bool, false, ◌||◌, cond, List, [], ◌∷◌, ℕ, ◌+◌, ◌/◌, ◌%◌, eqb, ltb, Option, Some, None, Result, Ok, Err}
use Rattle.limits.specs.declared.Refusal.{Refusal}
use Rattle.area_items.specs.Items.{Item, Reading, refused, items, area}
use Rattle.area_fields.specs.Fields.{counters_at, follow_up_at}
use Rattle.area_observation.specs.declared.Told.{Told}

-- a bit of the flag byte: U, unrecognized, is 128; M, malformed, 64; I, integrity failed, 32
abbrev pub flagged : ℕ → Item → Bool
flagged k i = eqb (i.flags / k % 2) 1

-- an item says that integrity failed: then none counts
unfoldable pub failed : List Item → Bool
failed [] = false
failed (i ∷ is) = flagged 32 i || failed is

-- the items up to the first that is malformed, without those that were not recognized
unfoldable pub usable : List Item → List Item
usable [] = []
usable (i ∷ is) = cond (flagged 64 i) [] (cond (flagged 128 i) (usable is) (i ∷ usable is))

-- where the value of the first item of a type begins; 0 where there is none
unfoldable pub first_of : (kind : ℕ) → List Item → ℕ
first_of k [] = 0
first_of k (i ∷ is) = cond (eqb i.kind k) (i.start + 4) (first_of k is)

-- 1 hardware assist, 2 software local and 3 control plane are the methods that RFC 8972 knows
abbrev pub unknown_mode : ℕ → Bool
unknown_mode mode = eqb mode 0 || ltb 3 mode

-- the counters whose value begins at a place; at 0 there are none
unfoldable pub counters_from : List ℕ → ℕ → Option CounterPoint
counters_from bytes at = cond (eqb at 0) None (Some (counters_at bytes at))

-- the follow-up whose value begins at a place; at 0 there is none
unfoldable pub sighted_from : List ℕ → ℕ → Option Sighting
sighted_from bytes at =
    let f = follow_up_at bytes at in
    cond (eqb at 0) None (Some (record { sequence = f.sequence; timestamp = f.timestamp; unknown = unknown_mode f.mode }))

-- neither counters nor a follow-up
abbrev pub nothing : Told
nothing = record { counters = None; follow = None }

-- of the items: type 5 has the counters, type 7 the follow-up
unfoldable pub told_by : List ℕ → List Item → Told
told_by bytes is =
    cond (failed is) nothing (record { counters = counters_from bytes (first_of 5 (usable is)); follow = sighted_from bytes (first_of 7 (usable is)) })

-- of a reading: the refusal of the first bad item, and nothing else; or what is told
abbrev pub told_of : List ℕ → Reading → Result Told Refusal
told_of bytes (refused e) = Err e
told_of bytes (items is) = Ok (told_by bytes is)

-- of the bytes of an area
unfoldable pub told : List ℕ → Result Told Refusal
told bytes = told_of bytes (area bytes)
