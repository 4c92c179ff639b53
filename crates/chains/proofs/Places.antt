-- Places and slots of a ring of N entries: a place's slot, where a link leads, and where a push goes.
-- Assumes nothing.
use mathlib.Core.Path.{◌≡◌, refl, sym, ap, ◌∙◌}
use mathlib.Core.Bool.{true, false, cond}
use mathlib.Core.Logic.{◌≢◌}
use Prim.Native.Nat.{ℕ, zero, suc, ◌+◌, ◌-◌, ◌≤◌, ◌<◌}
use native.Mathlib.Omega.{arith}
use native.Mathlib.Numerals.{add-one}
use lib.Dec.{ltb}
use Rattle.chains.specs.declared.Ring.{Ring}
use Rattle.chains.specs.Rings.{wrap, push_slot, after_push, RingFits}
use Rattle.chains.specs.Walk.{place_of}
use Rattle.chains.proofs.Tests.{Test, holds, fails, lt_test, lt_true, lt_false}

-- what `wrap` gives, for omega
pub data Wrapped (N i : ℕ) : Type 0 where
  low : i < N → wrap N i ≡ i → Wrapped N i
  high : N ≤ i → wrap N i ≡ i - N → Wrapped N i

pub wrap_is : (N i : ℕ) → Wrapped N i
unfolding wrap
wrap_is N i = go (lt_test i N)
  where
    go : Test (i < N) (ltb i N) → Wrapped N i
    go (holds p e) = low p (rw e)
    go (fails p e) = high (omega arith) (rw e)

pub wrap-low : (N i : ℕ) → i < N → wrap N i ≡ i
wrap-low N i h = go (wrap_is N i)
  where
    go : Wrapped N i → wrap N i ≡ i
    go (low a b) = b
    go (high a b) = absurd (omega arith)

pub wrap-high : (N i : ℕ) → N ≤ i → wrap N i ≡ i - N
wrap-high N i h = go (wrap_is N i)
  where
    go : Wrapped N i → wrap N i ≡ i - N
    go (low a b) = absurd (omega arith)
    go (high a b) = b

pub wrap-below : (N i : ℕ) → i < N + N → wrap N i < N
wrap-below N i h = go (wrap_is N i)
  where
    go : Wrapped N i → wrap N i < N
    go (low a b) = omega arith
    go (high a b) = omega arith

-- from one slot further on, a place less
pub step-wrap : (N from n : ℕ) → from < N → suc n < N → wrap N (wrap N (suc from) + n) ≡ wrap N (from + suc n)
step-wrap N from n h l = go (wrap_is N (suc from)) (wrap_is N (from + suc n)) (wrap_is N (wrap N (suc from) + n))
  where
    go : Wrapped N (suc from) → Wrapped N (from + suc n) → Wrapped N (wrap N (suc from) + n) → wrap N (wrap N (suc from) + n) ≡ wrap N (from + suc n)
    go (low a b) (low c d) (low e f) = omega arith
    go (low a b) (low c d) (high e f) = omega arith
    go (low a b) (high c d) (low e f) = omega arith
    go (low a b) (high c d) (high e f) = omega arith
    go (high a b) (low c d) (low e f) = omega arith
    go (high a b) (low c d) (high e f) = omega arith
    go (high a b) (high c d) (low e f) = omega arith
    go (high a b) (high c d) (high e f) = omega arith

-- the last place is the slot before the head
pub last-place : (N head : ℕ) → head < N → wrap N (wrap N (suc head) + (N - 1)) ≡ head
last-place N head h = go (wrap_is N (suc head)) (wrap_is N (wrap N (suc head) + (N - 1)))
  where
    go : Wrapped N (suc head) → Wrapped N (wrap N (suc head) + (N - 1)) → wrap N (wrap N (suc head) + (N - 1)) ≡ head
    go (low a b) (low c d) = omega arith
    go (low a b) (high c d) = omega arith
    go (high a b) (low c d) = omega arith
    go (high a b) (high c d) = omega arith

-- two places have two slots
pub places_differ : (N head i j : ℕ) → head < N → i < j → j < N → wrap N (head + i) ≢ wrap N (head + j)
places_differ N head i j h l m q = go (wrap_is N (head + i)) (wrap_is N (head + j))
  where
    go : Wrapped N (head + i) → Wrapped N (head + j) → ⊥
    go (low a b) (low c d) = omega arith
    go (low a b) (high c d) = omega arith
    go (high a b) (low c d) = omega arith
    go (high a b) (high c d) = omega arith

-- two places with one slot are one
pub slot_once : (N head i j : ℕ) → head < N → i < N → j < N → wrap N (head + i) ≡ wrap N (head + j) → i ≡ j
slot_once N head i j h a b e = go (lt_test i j) (lt_test j i)
  where
    go : Test (i < j) (ltb i j) → Test (j < i) (ltb j i) → i ≡ j
    go (holds p q) r = absurd (places_differ N head i j h p b e)
    go (fails p q) (holds r s) = absurd (places_differ N head j i h r a (sym e))
    go (fails p q) (fails r s) = omega arith

-- ---- where a link leads

-- what `place_of` gives: the place of the link's slot, or N
pub record Placed (N head link q : ℕ) : Type 0 where
  pub leads : q < N → link ≡ wrap N (head + q)
  pub inside : q < N → link < N
  pub Only : (i : ℕ) → i < N → link ≡ wrap N (head + i) → q ≡ i

module _ (N head link : ℕ) (h : head < N) where
  placed_at : (q : ℕ) → q < N → link < N → link ≡ wrap N (head + q) → Placed N head link q
  placed_at q l m e = record { leads = λ u. e; inside = λ u. m; Only = λ i u f. slot_once N head q i h l u (sym e ∙ f) }

  placed_out : N ≤ link → Placed N head link N
  placed_out l = record {
    leads = λ m. absurd (omega (arith, m));
    inside = λ m. absurd (omega (arith, m));
    Only = λ i m e. absurd (omega (arith, m, e, wrap-below N (head + i) (omega (arith, m))));
  }

  placed_up : head ≤ link → link < N → Placed N head link (link - head)
  placed_up l m = placed_at (link - head) (omega arith) m (go (wrap_is N (head + (link - head))))
    where
      go : Wrapped N (head + (link - head)) → link ≡ wrap N (head + (link - head))
      go (low a b) = omega arith
      go (high a b) = absurd (omega arith)

  placed_down : link < head → Placed N head link (link + N - head)
  placed_down l = placed_at (link + N - head) (omega arith) (omega arith) (go (wrap_is N (head + (link + N - head))))
    where
      go : Wrapped N (head + (link + N - head)) → link ≡ wrap N (head + (link + N - head))
      go (low a b) = absurd (omega arith)
      go (high a b) = omega arith

  pub place-placed : Placed N head link (place_of N head link)
  unfolding place_of
  place-placed = go (lt_test link N) (lt_test link head)
    where
      go : Test (link < N) (ltb link N) → Test (link < head) (ltb link head) → Placed N head link (cond (ltb link N) (cond (ltb link head) (link + N - head) (link - head)) N)
      go (holds a b) (holds c d) = rw (b, d) (placed_down c)
      go (holds a b) (fails c d) = rw (b, d) (placed_up (omega arith) a)
      go (fails a b) t = rw b (placed_out (omega arith))

-- what `place` answers, by its tests
module _ (N head link : ℕ) where
  pub place_down : link < N → link < head → link + N - head ≡ place_of N head link
  unfolding place_of
  place_down a b = rw (lt_true link N a, lt_true link head b)

  pub place_up : link < N → head ≤ link → link - head ≡ place_of N head link
  unfolding place_of
  place_up a b = rw (lt_true link N a, lt_false link head b)

  pub place_out : N ≤ link → N ≡ place_of N head link
  unfolding place_of
  place_out a = rw (lt_false link N a)

-- the slot of a place leads there
pub place_of_slot : (N head p : ℕ) → head < N → p < N → place_of N head (wrap N (head + p)) ≡ p
place_of_slot N head p h l = (place-placed N head (wrap N (head + p)) h).Only p l refl

-- ---- a push

pub data Pushed (N : ℕ) (ring : Ring) : Type 0 where
  room : ring.len < N → push_slot N ring ≡ wrap N (ring.head + ring.len) → (after_push N ring).head ≡ ring.head → (after_push N ring).len ≡ suc ring.len → Pushed N ring
  full : N ≤ ring.len → push_slot N ring ≡ ring.head → (after_push N ring).head ≡ wrap N (suc ring.head) → (after_push N ring).len ≡ ring.len → Pushed N ring

pub push_is : (N : ℕ) (ring : Ring) → Pushed N ring
unfolding push_slot after_push
push_is N ring = go (lt_test ring.len N)
  where
    go : Test (ring.len < N) (ltb ring.len N) → Pushed N ring
    go (holds l e) = room l (rw e) (rw e) (rw (e, add-one))
    go (fails l e) = full (omega arith) (rw e) (rw (e, add-one)) (rw e)

-- what `push_slot` and `pushed` answer, by their test
module _ (N : ℕ) (ring : Ring) where
  pub slot_room : ring.len < N → wrap N (ring.head + ring.len) ≡ push_slot N ring
  unfolding push_slot
  slot_room l = rw (lt_true ring.len N l)

  pub slot_full : N ≤ ring.len → ring.head ≡ push_slot N ring
  unfolding push_slot
  slot_full l = rw (lt_false ring.len N l)

  pub after_room : ring.len < N → record { head = ring.head; len = ring.len + 1 } ≡ after_push N ring
  unfolding after_push
  after_room l = rw (lt_true ring.len N l)

  pub after-full : (next : ℕ) → N ≤ ring.len → next ≡ wrap N (ring.head + 1) → record { head = next; len = ring.len } ≡ after_push N ring
  unfolding after_push
  after-full next l e = rw (lt_false ring.len N l, e)

module _ (N : ℕ) (ring : Ring) (fits : RingFits N ring) where
  pub push-below : push_slot N ring < N
  push-below = go (push_is N ring)
    where
      go : Pushed N ring → push_slot N ring < N
      go (room l s h n) = rw s (wrap-below N (ring.head + ring.len) (omega (arith, fits.head_in)))
      go (full l s h n) = rw s fits.head_in

  pub push-fits : RingFits N (after_push N ring)
  push-fits = go (push_is N ring)
    where
      go : Pushed N ring → RingFits N (after_push N ring)
      go (room l s h n) = record { head_in = rw h fits.head_in; len_in = rw n (omega arith) }
      go (full l s h n) = record { head_in = rw h (wrap-below N (suc ring.head) (omega (arith, fits.head_in))); len_in = rw n fits.len_in }
