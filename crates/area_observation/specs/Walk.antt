-- One walk over the items that finds what is told. Assumes nothing.
use Rattle.std.specs.Prelude.{◌≡◌, Bool, false, ◌||◌, ◌&&◌, not, cond, List, [], ◌∷◌, ℕ, zero, suc, ◌+◌, ◌/◌, ◌%◌, ◌≤◌, eqb, length, Result, Ok, Err}
use Rattle.limits.specs.declared.Refusal.{Refusal}
use Rattle.area_items.specs.Items.{Item, Reading, refused, items}
use Rattle.area_observation.specs.Told.{flagged, failed, usable, first_of}
use Rattle.area_observation.specs.declared.Found.{Found}

-- the first place stays; a new one is taken where the item counts
abbrev pub chosen_of : (first : ℕ) → (taken : Bool) → (place : ℕ) → ℕ
chosen_of zero taken place = cond taken place 0
chosen_of (suc n) taken place = suc n

-- what is known after one item more
unfoldable pub noted_of : Found → (flags kind place : ℕ) → Found
noted_of f flags kind place =
    let stopped = f.stopped || eqb (flags / 64 % 2) 1 in
    let passed = stopped || eqb (flags / 128 % 2) 1 in
    record {
      failed = f.failed || eqb (flags / 32 % 2) 1;
      stopped = stopped;
      counters = chosen_of f.counters (not passed && eqb kind 5) place;
      follow = chosen_of f.follow (not passed && eqb kind 7) place;
    }

-- an item is malformed
unfoldable pub malformed : List Item → Bool
malformed [] = false
malformed (i ∷ is) = flagged 64 i || malformed is

-- the first place that is not 0
abbrev pub pick : ℕ → ℕ → ℕ
pick zero b = b
pick (suc a) b = suc a

-- what is known after items more
abbrev pub onward : Found → List Item → Found
onward f is = record {
  failed = f.failed || failed is;
  stopped = f.stopped || malformed is;
  counters = pick f.counters (cond f.stopped 0 (first_of 5 (usable is)));
  follow = pick f.follow (cond f.stopped 0 (first_of 7 (usable is)));
}

-- before the first item
abbrev pub fresh : Found
fresh = record { failed = false; stopped = false; counters = 0; follow = 0 }

-- a reading, walked from what is known
abbrev pub walked : Found → Reading → Result Found Refusal
walked f (refused e) = Err e
walked f (items is) = Ok (onward f is)

-- a place that is not 0 has so many bytes behind it
abbrev pub Inside : (n : ℕ) → List ℕ → ℕ → Type 0
Inside n bytes at = (at ≡ 0 → ⊥) → at + n ≤ length bytes

-- the values that were found lie within the bytes
abbrev pub Safe : List ℕ → Found → Type 0
Safe bytes f = Inside 12 bytes f.counters × Inside 16 bytes f.follow

-- the same of a walk; one that was refused has found nothing
abbrev pub SafeWalk : List ℕ → Result Found Refusal → Type 0
SafeWalk bytes (Err e) = Unit {0}
SafeWalk bytes (Ok f) = Safe bytes f
