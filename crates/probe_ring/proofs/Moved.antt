-- Slots that each take what stands in the next one: in two stretches, and slot by slot.
-- Assumes nothing.
use mathlib.Core.Path.{◌≡◌, refl, sym, ap, ◌∙◌}
use mathlib.Core.Logic.{◌≢◌}
use Prim.Native.Nat.{ℕ, zero, suc, ◌+◌, ◌-◌, ◌≤◌, ◌<◌}
use native.Mathlib.Omega.{arith}
use native.Mathlib.Nat.{zero-add, add-zero, suc-add}
use lib.Dec.{eqb}
use Rattle.chains.specs.Rings.{wrap}
use Rattle.chains.proofs.Tests.{Test, holds, fails, eq_test}
use Rattle.chains.proofs.Places.{Wrapped, low, high, wrap_is, wrap-low, wrap-high, wrap-below, slot_once}
use Rattle.probe_ring.specs.Rooms.{moved}

-- the slot after the slot of a place
next_slot : (N head p : ℕ) → head < N → suc p < N → wrap N (suc (wrap N (head + p))) ≡ wrap N (head + suc p)
next_slot N head p h l = go (wrap_is N (head + p)) (wrap_is N (head + suc p)) (wrap_is N (suc (wrap N (head + p))))
  where
    go : Wrapped N (head + p) → Wrapped N (head + suc p) → Wrapped N (suc (wrap N (head + p))) → wrap N (suc (wrap N (head + p))) ≡ wrap N (head + suc p)
    go (low a b) (low c d) (low e f) = omega arith
    go (low a b) (low c d) (high e f) = omega arith
    go (low a b) (high c d) (low e f) = omega arith
    go (low a b) (high c d) (high e f) = omega arith
    go (high a b) (low c d) (low e f) = omega arith
    go (high a b) (low c d) (high e f) = omega arith
    go (high a b) (high c d) (low e f) = omega arith
    go (high a b) (high c d) (high e f) = omega arith

module _ {R : Type 0} (N : ℕ) (move : ℕ → ℕ → R → R) where
  pub moved_none : (slot : ℕ) (room : R) → moved N move slot 0 room ≡ room
  unfolding moved
  moved_none slot room = refl

  -- one more, below the end of the room
  pub moved_on : (slot m : ℕ) (room : R) → suc slot < N → moved N move slot (suc m) room ≡ moved N move (suc slot) m (move slot (suc slot) room)
  unfolding moved
  moved_on slot m room l = rw (wrap-low N (suc slot) l)

  -- one more, over the end of the room
  pub moved-over : (slot m : ℕ) (room : R) → suc slot ≡ N → moved N move slot (suc m) room ≡ moved N move 0 m (move slot 0 room)
  unfolding moved
  moved-over slot m room e =
      let start : wrap N (suc slot) ≡ 0 = wrap-high N (suc slot) (omega arith) ∙ omega arith in
      rw start

  -- one stretch, then the rest, where the first does not pass the end of the room
  pub moved-add : (a b slot : ℕ) (room : R) → slot + a < N → moved N move slot (a + b) room ≡ moved N move (slot + a) b (moved N move slot a room)
  moved-add zero b slot room l = rw (zero-add b, add-zero slot, moved_none slot room)
  moved-add (suc a) b slot room l =
      let next : slot + suc a ≡ suc slot + a = omega arith in
      rw (suc-add a b, moved_on slot (a + b) room (omega arith), moved_on slot a room (omega arith), next)
      (moved-add a b (suc slot) (move slot (suc slot) room) (omega arith))

-- ---- as the code moves them: in one stretch, or up to the end of the room, over it, and from its start

module _ {R : Type 0} (N : ℕ) (move : ℕ → ℕ → R → R) (slot above : ℕ) (room : R) where
  pub moved_straight : (after : R) → after ≡ moved N move slot (slot + above - slot) room → after ≡ moved N move slot above room
  moved_straight after e = let count : slot + above - slot ≡ above = omega arith in e ∙ rw count

  pub moved-around : (half after : R) → slot < N → N ≤ slot + above → half ≡ moved N move slot (N - 1 - slot) room
      → after ≡ moved N move 0 (slot + above - N - 0) (move (N - 1) 0 half) → after ≡ moved N move slot above room
  moved-around half after l m e f =
      let all : above ≡ (N - 1 - slot) + suc (slot + above - N) = omega arith in
      let last : slot + (N - 1 - slot) ≡ N - 1 = omega arith in
      let rest : slot + above - N - 0 ≡ slot + above - N = omega arith in
      f ∙ sym (ap (λ (n : ℕ). moved N move slot n room) all
      ∙ moved-add N move (N - 1 - slot) (suc (slot + above - N)) slot room (omega arith)
      ∙ rw (last, ← e, rest) (moved-over N move (N - 1) (slot + above - N) half (omega arith)))

-- `at` reads a slot of a room of the shape `Fits`; a move changes the slot that it goes to, by `f`, and no other.
module _ {R A : Type 0} (N head : ℕ) (head_in : head < N) (move : ℕ → ℕ → R → R) (at : R → ℕ → A) (f : A → A) (Fits : R → Type 0)
    (keeps : (to from : ℕ) (room : R) → to < N → Fits room → Fits (move to from room))
    (here : (to from : ℕ) (room : R) → to < N → Fits room → at (move to from room) to ≡ f (at room from))
    (there : (to from i : ℕ) (room : R) → to < N → Fits room → i ≢ to → at (move to from room) i ≡ at room i) where
  slot_in_lem : (p : ℕ) → p < N → wrap N (head + p) < N
  slot_in_lem p l = wrap-below N (head + p) (omega arith)

  pub moved-fits : (p m : ℕ) (room : R) → p + m < N → Fits room → Fits (moved N move (wrap N (head + p)) m room)
  unfolding moved
  moved-fits p zero room l k = k
  moved-fits p (suc m) room l k =
      rw (next_slot N head p head_in (omega arith))
      (moved-fits (suc p) m (move (wrap N (head + p)) (wrap N (head + suc p)) room) (omega arith)
      (keeps (wrap N (head + p)) (wrap N (head + suc p)) room (slot_in_lem p (omega arith)) k))

  -- below place p, and from p + m on, nothing changes
  pub moved_out : (p m : ℕ) (room : R) (i : ℕ) → p + m < N → Fits room → i < N → (p ≤ i → i < p + m → ⊥)
      → at (moved N move (wrap N (head + p)) m room) (wrap N (head + i)) ≡ at room (wrap N (head + i))
  unfolding moved
  moved_out p zero room i l k u out = refl
  moved_out p (suc m) room i l k u out =
      rw (next_slot N head p head_in (omega arith))
      (moved_out (suc p) m (move (wrap N (head + p)) (wrap N (head + suc p)) room) i (omega arith)
      (keeps (wrap N (head + p)) (wrap N (head + suc p)) room (slot_in_lem p (omega arith)) k) u (λ x y. out (omega arith) (omega arith))
      ∙ there (wrap N (head + p)) (wrap N (head + suc p)) (wrap N (head + i)) room (slot_in_lem p (omega arith)) k
      (λ e. let same : i ≡ p = slot_once N head i p head_in u (omega arith) e in out (omega arith) (omega arith)))

  -- between, each is what stood one place up
  pub moved_in : (p m : ℕ) (room : R) (i : ℕ) → p + m < N → Fits room → p ≤ i → i < p + m
      → at (moved N move (wrap N (head + p)) m room) (wrap N (head + i)) ≡ f (at room (wrap N (head + suc i)))
  unfolding moved
  moved_in p zero room i l k x y = absurd (omega arith)
  moved_in p (suc m) room i l k x y =
      rw (next_slot N head p head_in (omega arith))
      (go (eq_test i p) (keeps (wrap N (head + p)) (wrap N (head + suc p)) room (slot_in_lem p (omega arith)) k)
      (λ z u. moved_in (suc p) m (move (wrap N (head + p)) (wrap N (head + suc p)) room) i (omega arith) z u (omega arith)))
    where
      go : Test (i ≡ p) (eqb i p) → Fits (move (wrap N (head + p)) (wrap N (head + suc p)) room)
          → (Fits (move (wrap N (head + p)) (wrap N (head + suc p)) room) → suc p ≤ i
          → at (moved N move (wrap N (head + suc p)) m (move (wrap N (head + p)) (wrap N (head + suc p)) room)) (wrap N (head + i))
          ≡ f (at (move (wrap N (head + p)) (wrap N (head + suc p)) room) (wrap N (head + suc i))))
          → at (moved N move (wrap N (head + suc p)) m (move (wrap N (head + p)) (wrap N (head + suc p)) room)) (wrap N (head + i)) ≡ f (at room (wrap N (head + suc i)))
      go (holds q t) fits above =
          rw q
          (moved_out (suc p) m (move (wrap N (head + p)) (wrap N (head + suc p)) room) p (omega arith) fits (omega arith) (λ a b. omega (arith, a))
          ∙ here (wrap N (head + p)) (wrap N (head + suc p)) room (slot_in_lem p (omega arith)) k)
      go (fails q t) fits above =
          above fits (omega arith)
          ∙ ap f (there (wrap N (head + p)) (wrap N (head + suc p)) (wrap N (head + suc i)) room (slot_in_lem p (omega arith)) k
          (λ e. let same : suc i ≡ p = slot_once N head (suc i) p head_in (omega arith) (omega arith) e in omega arith))

-- What no move changes stays.
pub moved_keeps : {R A : Type 0} (N : ℕ) (move : ℕ → ℕ → R → R) (Q : R → A) (Fits : R → Type 0)
    → ((to from : ℕ) (room : R) → to < N → Fits room → Fits (move to from room)) → ((to from : ℕ) (room : R) → to < N → Fits room → Q (move to from room) ≡ Q room)
    → (slot m : ℕ) (room : R) → slot < N → Fits room → Q (moved N move slot m room) ≡ Q room
unfolding moved
moved_keeps N move Q Fits keeps same slot zero room l k = refl
moved_keeps N move Q Fits keeps same slot (suc m) room l k =
    moved_keeps N move Q Fits keeps same (wrap N (suc slot)) m (move slot (wrap N (suc slot)) room) (wrap-below N (suc slot) (omega arith)) (keeps slot (wrap N (suc slot)) room l k)
    ∙ same slot (wrap N (suc slot)) room l k
