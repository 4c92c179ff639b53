-- The loop of `contains`: below `bound` everything is still to be walked, from the link `slot`. The head is 0, so a link is its own place.
-- Assumes nothing.
use mathlib.Core.Path.{◌≡◌, refl, sym}
use mathlib.Core.Bool.{Bool, true, false, cond}
use Prim.Native.Nat.{ℕ, ◌-◌, ◌+◌, ◌≤◌, ◌<◌}
use native.Mathlib.Omega.{arith}
use lib.Dec.{eqb, ltb}
use lib.ListN.{get_or}
use Rattle.chains.specs.Links.{newest, older}
use Rattle.chains.specs.Walk.{walk, place_of}
use Rattle.chains.proofs.Tests.{Test, holds, fails, lt_test, lt_true, lt_false}
use Rattle.chains.proofs.Loop.{Walking, walking_found, walking_on, walking_ends}
use Rattle.offset_set.specs.Offsets.{OffsetSet, lane, contains}

module _ (N : ℕ) (some : 0 < N) where
  place-low : (slot : ℕ) → slot < N → place_of N 0 slot ≡ slot
  unfolding place_of
  place-low slot l = rw (lt_true slot N l, lt_false slot 0 (omega arith)) (omega arith)

  place-high : (slot bound : ℕ) → bound ≤ N → bound ≤ slot → bound ≤ place_of N 0 slot
  unfolding place_of
  place-high slot bound m l = go (lt_test slot N)
    where
      go : Test (slot < N) (ltb slot N) → bound ≤ cond (ltb slot N) (cond (ltb slot 0) (slot + N - 0) (slot - 0)) N
      go (holds a b) = rw (b, lt_false slot 0 (omega arith)) (omega arith)
      go (fails a b) = rw b m

-- `h` is the hash of the offset
module _ (N : ℕ) (s : OffsetSet) (offset h : ℕ) (some : 0 < N) where
  abbrev same : ℕ → Bool
  same slot = eqb offset (get_or s.offsets slot 0)

  abbrev answer : ℕ
  answer = walk N same (older lane s.links) 0 s.count (newest lane s.links h)

  pub record Searching (bound slot : ℕ) : Type 0 where
    pub bound_in : bound ≤ N
    pub walking : Walking N same (older lane s.links) 0 answer bound slot (place_of N 0 slot)

  pub searching_starts : (slot : ℕ) → s.count ≤ N → slot ≡ newest lane s.links h → Searching s.count slot
  searching_starts slot l f = record { bound_in = l; walking = record { bound = l; rest = rw f; at = refl } }

  module _ (bound slot : ℕ) (w : Searching bound slot) where
    inside : slot < bound → place_of N 0 slot < bound
    inside l = rw (place-low N some slot (omega (arith, w.bound_in))) l

    pub searching_found : (hash : ℕ → ℕ) → h ≡ hash offset → slot < bound → same slot ≡ true → true ≡ contains N hash s offset
    unfolding contains
    searching_found hash f l e =
        let found : slot ≡ answer = walking_found N same (older lane s.links) 0 answer bound slot (place_of N 0 slot) some w.walking (same slot) (inside l) refl e in
        sym (rw (← f, ← found) (lt_true slot N (omega (arith, w.bound_in))))

    pub searching_on : (next : ℕ) → slot < bound → same slot ≡ false → next ≡ older lane s.links slot → Searching slot next
    searching_on next l e f =
        let on = walking_on N same (older lane s.links) 0 answer bound slot (place_of N 0 slot) some w.walking (same slot) next (place_of N 0 next) (inside l) refl e f refl in
        record { bound_in = omega (arith, w.bound_in); walking = rw (place-low N some slot (omega (arith, w.bound_in))) at on }

    pub searching_ends : (hash : ℕ → ℕ) → h ≡ hash offset → bound ≤ slot → false ≡ contains N hash s offset
    unfolding contains
    searching_ends hash f l =
        let none : N ≡ answer = walking_ends N same (older lane s.links) 0 answer bound slot (place_of N 0 slot) some w.walking (place-high N some slot bound w.bound_in l) in
        sym (rw (← f, ← none) (lt_false N N (omega arith)))
