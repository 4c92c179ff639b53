-- What the calls leave, put together from what their callees leave.
-- Assumes nothing.
use mathlib.Core.Path.{◌≡◌, ◌∙◌}
use mathlib.Core.Bool.{Bool, ◌&&◌}
use mathlib.Core.List.{List, []}
use Prim.Native.Nat.{ℕ, ◌-◌, ◌≤◌, ◌<◌}
use native.Mathlib.Omega.{arith}
use lib.Dec.{eqb, leb}
use lib.ListN.{get_or, set}
use Rattle.chains.specs.declared.Ring.{Ring}
use Rattle.chains.specs.Rings.{push_slot, after_push, RingFits}
use Rattle.chains.specs.Walk.{place_of}
use Rattle.chains.specs.Links.{older, linked}
use Rattle.chains.proofs.Tests.{lt_true, lt_false}
use Rattle.chains.proofs.Places.{place_of_slot}
use Rattle.chains.proofs.Walks.{Walked, found, nothing, walked}
use Rattle.probe_ring.specs.declared.HeldProbe.{HeldProbe}
use Rattle.probe_ring.specs.Row.{sequence_of, replies_of, words_of}
use Rattle.probe_ring.specs.Rooms.{Rooms, rooms, lane, Outcome, outcome, slot_of, remembered_at, remembered, moved, move_row, move_link, mended_link, mend_newest, closed_up, taken_out, pushed}

-- `push_when`: whether the ring is full, the slot, the hash, the ring after it, the two rooms, and the replies of the row that went
pub pushed_as : (N : ℕ) (hash : ℕ → ℕ) (r : Rooms) (p : HeldProbe) (full : Bool) (slot h : ℕ) (next : Ring) (rows links : List (List ℕ))
    → full ≡ leb N r.ring.len → slot ≡ push_slot N r.ring → h ≡ hash p.sequence → next ≡ after_push N r.ring → rows ≡ set r.rows slot (words_of p)
    → links ≡ linked lane r.links h slot
    → (before : ℕ) → before ≡ replies_of (get_or r.rows slot [])
    → outcome rows links (record { ring = next; slot = slot; evicted = full; lost = full && eqb before 0 }) ≡ pushed N hash r p
unfolding pushed
pushed_as N hash r p full slot h next rows links g a b c d e before f = rw (g, f, d, e, a, b, c)

-- `take_out`: the place of the slot, what its own link is, and the rooms, mended and then moved
pub taken_as : (N : ℕ) (r : Rooms) (slot gone above own lift at : ℕ) (mended links rows : List (List ℕ))
    → gone ≡ place_of N r.ring.head slot → above ≡ r.ring.len - 1 - gone → own ≡ older lane r.links slot → lift ≡ N - r.ring.head → at ≡ gone
    → mended ≡ mend_newest (mended_link N lift at own) r.links → links ≡ moved N (move_link (mended_link N lift at own)) slot above mended
    → rows ≡ moved N move_row slot above r.rows
    → rooms rows links (record { head = r.ring.head; len = r.ring.len - 1 }) ≡ taken_out N r slot
unfolding taken_out closed_up
taken_as N r slot gone above own lift at mended links rows a b c d e f g h = rw (h, g, f, e, d, c, b, a)

-- ---- `remember`

module _ (N : ℕ) (hash : ℕ → ℕ) (r : Rooms) (fits : RingFits N r.ring) where
  -- a slot that is found is that of a place below the length
  pub found_below : (s slot : ℕ) → slot ≡ slot_of N hash r s → slot < N → place_of N r.ring.head slot < r.ring.len
  unfolding slot_of
  found_below s slot e l = rw e (go (walked N _ _ r.ring.head r.ring.len _) (rw e at l))
    where
      go : {slot : ℕ} → Walked N (λ slot. eqb s (sequence_of (get_or r.rows slot []))) (older lane r.links) r.ring.head r.ring.len slot
          → slot < N → place_of N r.ring.head slot < r.ring.len
      go (found p m f t) l = rw (f, place_of_slot N r.ring.head p fits.head_in (omega (arith, fits.len_in))) m
      go (nothing f) l = absurd (omega arith)

  module _ (p : HeldProbe) (slot : ℕ) (slot_is : slot ≡ slot_of N hash r p.sequence) (after : Outcome) where
    pub remembered-held : (rest : Rooms) → slot < N → rest ≡ taken_out N r slot → after ≡ pushed N hash rest p → after ≡ remembered N hash r p
    unfolding remembered remembered_at
    remembered-held rest l e f = f ∙ rw (e, ← slot_is, lt_true slot N l)

    pub remembered-new : N ≤ slot → after ≡ pushed N hash r p → after ≡ remembered N hash r p
    unfolding remembered remembered_at
    remembered-new l f = f ∙ rw (← slot_is, lt_false slot N l)
