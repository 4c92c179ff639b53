-- The loop of `find`: below place `bound` everything is still to be walked, from the link `slot`, which leads to place `at`.
-- Assumes nothing.
use mathlib.Core.Path.{◌≡◌, refl, ◌∙◌}
use mathlib.Core.Bool.{Bool}
use mathlib.Core.List.{List, []}
use Prim.Native.Nat.{ℕ, ◌≤◌, ◌<◌}
use lib.Dec.{eqb}
use lib.ListN.{get_or}
use Rattle.chains.specs.declared.Ring.{Ring}
use Rattle.chains.specs.Links.{newest, older}
use Rattle.chains.specs.Walk.{walk, place_of}
use Rattle.chains.proofs.Tests.{eq_true, eq_false}
use Rattle.chains.proofs.Loop.{Walking, walking_inside, walking_found, walking_on, walking_ends}
use Rattle.probe_ring.specs.Row.{sequence_of}
use Rattle.probe_ring.specs.Rooms.{lane, rooms, slot_of}

-- `h` is the hash of the sequence
module _ (N : ℕ) (rows links : List (List ℕ)) (head len sequence h : ℕ) where
  abbrev same : ℕ → Bool
  same slot = eqb sequence (sequence_of (get_or rows slot []))

  abbrev answer : ℕ
  answer = walk N same (older lane links) head len (newest lane links h)

  abbrev pub Searching : ℕ → ℕ → ℕ → Type 0
  Searching bound slot at = Walking N same (older lane links) head answer bound slot at

  pub searching_starts : (slot at : ℕ) → len ≤ N → slot ≡ newest lane links h → at ≡ place_of N head slot → Searching len slot at
  searching_starts slot at l e f = record { bound = l; rest = rw e; at = f }

  module _ (bound slot at : ℕ) (head_in : head < N) (w : Searching bound slot at) where
    pub searching_inside : at < bound → slot < N
    searching_inside l = walking_inside N same (older lane links) head answer bound slot at head_in w l

    pub searching_on : (found next place : ℕ) → at < bound → found ≡ sequence_of (get_or rows slot []) → (sequence ≡ found → ⊥)
        → next ≡ older lane links slot → place ≡ place_of N head next → Searching at next place
    searching_on found next place l e ne f g =
        walking_on N same (older lane links) head answer bound slot at head_in w (same slot) next place l refl (rw (← e) (eq_false sequence found ne)) f g

    module _ (ring : Ring) (hash : ℕ → ℕ) (head-is : ring.head ≡ head) (len_is : ring.len ≡ len) (hash-is : h ≡ hash sequence) where
      answer_is : answer ≡ slot_of N hash (rooms rows links ring) sequence
      unfolding slot_of
      answer_is = rw (hash-is, head-is, len_is)

      pub searching_found : (found : ℕ) → at < bound → found ≡ sequence_of (get_or rows slot []) → sequence ≡ found → slot ≡ slot_of N hash (rooms rows links ring) sequence
      searching_found found l e f =
          walking_found N same (older lane links) head answer bound slot at head_in w (same slot) l refl (rw (← e) (eq_true sequence found f)) ∙ answer_is

      pub searching_ends : bound ≤ at → N ≡ slot_of N hash (rooms rows links ring) sequence
      searching_ends l = walking_ends N same (older lane links) head answer bound slot at head_in w l ∙ answer_is
